-- The folder and the name that a path has.
use Rattle.std.specs.Prelude.{ℕ, ◌==◌, ◌||◌, Bool, List, Option, None, Some, codes, length}
use Rattle.std.specs.Prelude.{if◌then◌else◌}
use Rattle.std.specs.Path.{rsplit_once}
use Rattle.std.specs.Str.{bytes_eq}

-- nothing, and the names that a folder has in itself: no file has such a name
abbrev pub leads_to_folder : List ℕ → Bool
leads_to_folder name =
    (length name == 0 || bytes_eq name (codes ".")) || bytes_eq name (codes "..")

-- the folder and the name, by what stands before and behind the last slash: a name alone is one of
-- this folder, and what has only a slash before it is one of the root
abbrev pub of_split : List ℕ → Option (List ℕ × List ℕ) → List ℕ × List ℕ
of_split path None = (codes ".", path)
of_split path (Some split) = (if length split.0 == 0 then codes "/" else split.0, split.1)

abbrev pub if_file : List ℕ × List ℕ → Option (List ℕ × List ℕ)
if_file parts = if leads_to_folder parts.1 then None else Some parts

-- the folder and the name of a path, if it can be that of a file
abbrev pub parts_in : List ℕ → Option (List ℕ × List ℕ)
parts_in path = if_file (of_split path (rsplit_once 47 path))
