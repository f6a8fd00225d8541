-- What is known of files that are to be read.
use Rattle.std.specs.Prelude.{ℕ, List, [], ◌∷◌, Option, None, Some, if◌then◌else◌}
use Rattle.std.specs.Str.{bytes_eq}
use Rattle.manifest.specs.declared.entry.FileSum.{FileSum}
use Rattle.checked_files.specs.declared.expected.Expected.{Expected}

-- what is known of the file of a name
abbrev pub sum_of : List ℕ → List Expected → Option FileSum
sum_of name [] = None
sum_of name (it ∷ rest) = if bytes_eq it.name.now name then Some it.file else sum_of name rest
