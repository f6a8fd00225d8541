-- What manifests say of the files that a command reads.
use Rattle.std.specs.Prelude.{ℕ, ◌≡◌, ◌≤◌, ◌++◌, [], ◌∷◌, if◌then◌else◌, All, IsSome, List, None}
use Rattle.std.specs.Prelude.{Option, Some, option_map}
use Rattle.std.specs.Borrow.{Bor}
use Rattle.std.specs.Str.{bytes_eq}
use Rattle.manifest.specs.Entries.{Listed}
use Rattle.checked_files.specs.declared.known.Known.{Known}
use Rattle.checked_files.specs.declared.known.Known.TheVariants.{Named, Nothing, Unnamed}
use Rattle.checked_files.specs.Expected.{sum_of}
use Rattle.checked_files.specs.declared.expected.Expected.{Expected}
use Rattle.file_inputs.specs.declared.beside.Beside.{Beside}
use Rattle.file_inputs.specs.declared.input_names.InputNames.{InputNames}
use Rattle.file_inputs.specs.declared.manifests.Checks.{Checks}
use Rattle.file_inputs.specs.ReadFiles.{name_at}

-- the manifest that was found in a folder, if one stands there
abbrev pub manifest_in : List Beside → List ℕ → Option Listed
manifest_in [] folder = None
manifest_in (it ∷ rest) folder =
    if bytes_eq it.folder.now folder then it.manifest else manifest_in rest folder

-- no file is expected or told of anew
pub record KeepsAll (old new : Checks) : Type 0 where
  pub expected : new.expected.items ≡ old.expected.items
  pub unnamed : new.unnamed.items ≡ old.unnamed.items

-- what is known of one more file is taken up: where it is named it is expected to be that file, and
-- where its manifest does not name it, that is to be told
abbrev pub TakesUp : Bor (List ℕ) → Known → Checks → Checks → Type 0
TakesUp name Nothing old new = KeepsAll old new
TakesUp name Unnamed old new = (new.expected.items ≡ old.expected.items)
    × (new.unnamed.items ≡ old.unnamed.items ++ name ∷ [])
TakesUp name (Named file) old new = (new.unnamed.items ≡ old.unnamed.items)
    × (new.expected.items ≡ old.expected.items ++ record { name = name; file = file } ∷ [])

-- the file is at this place among those that are named, and all of it counts: of a log up to one of
-- its records neither the log nor the master record is compared
pub record IsPlaced (names : InputNames) (name : List ℕ) : Type 0 where
  pub place : ℕ
  pub named : name_at names place ≡ Some name
  pub whole : IsSome names.until → 2 ≤ place

-- so are all files that are expected, and those of which a manifest says nothing
pub record ArePlaced (names : InputNames) (checks : Checks) : Type 0 where
  pub expected : All (λ it. IsPlaced names it.name.now) checks.expected.items
  pub unnamed : All (λ name. IsPlaced names name.now) checks.unnamed.items

-- no file is compared, and none is told of
pub record ComparesNone (checks : Checks) : Type 0 where
  pub expected : checks.expected.items ≡ []
  pub unnamed : checks.unnamed.items ≡ []

-- how many bytes are named of the file of a name, by the first that is expected of it
abbrev pub named_in : List Expected → List ℕ → Option ℕ
named_in expected name = option_map (λ file. file.bytes) (sum_of name expected)
