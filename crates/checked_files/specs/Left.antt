-- What a manifest says of the files that an engine leaves.
use Rattle.std.specs.Prelude.{ℕ, ◌≡◌, ◌<◌, List, None, Some, codes}
use Rattle.manifest.specs.declared.entry.Extent.TheVariants.{Whole}
use Rattle.manifest.specs.declared.entry.FileSum.{FileSum}
use Rattle.manifest.specs.Entries.{Noted, file_of, noted}
use Rattle.manifest.specs.Sums.{IsSumOf}
use Rattle.saved_files.specs.declared.saved_name.SavedName.{SavedName}
use Rattle.saved_files.specs.Saved.{IsNone, IsNoneBefore, Parts, name_of, place_of}

-- all of the log is named, as of saved files; of a database, whose log grows, the first bytes are
pub record NamesAllOfLog (entries : List Noted) : Type 0 where
  pub file : FileSum
  pub there : file_of (codes "log") entries ≡ Some file
  pub extent : file.extent ≡ Whole

-- under its name a file of these bytes is noted, all of it
pub record IsNotedAs (bytes : List ℕ) (name : SavedName) (entries : List Noted) : Type 0 where
  pub file : FileSum
  pub there : file_of (name_of name) entries ≡ Some file
  pub extent : file.extent ≡ Whole
  pub sum : IsSumOf file.sum file.bytes bytes

-- each file before this place is noted
abbrev pub AreNotedBefore : Parts → ℕ → List Noted → Type 0
AreNotedBefore parts end entries = (name : SavedName) (bytes : List ℕ) → parts name ≡ Some bytes
    → place_of name < end → IsNotedAs bytes name entries

-- each file is
abbrev pub AreNoted : Parts → List Noted → Type 0
AreNoted parts entries = (name : SavedName) (bytes : List ℕ) → parts name ≡ Some bytes
    → IsNotedAs bytes name entries

-- no name is noted but those of the files before this place
abbrev pub NotesNoOtherBefore : Parts → ℕ → List Noted → Type 0
NotesNoOtherBefore parts end entries =
    (n : List ℕ) → IsNoneBefore parts end n → file_of n entries ≡ None

-- no name is noted but those of the files
abbrev pub NotesNoOther : Parts → List Noted → Type 0
NotesNoOther parts entries = (n : List ℕ) → IsNone parts n → file_of n entries ≡ None

-- a file of such bytes is noted under its name, all of it
pub record Notes (name : SavedName) (fits : List ℕ → Type 0) (old new : List Noted) : Type 0 where
  pub bytes : List ℕ
  pub right : fits bytes
  pub file : FileSum
  pub extent : file.extent ≡ Whole
  pub sum : IsSumOf file.sum file.bytes bytes
  pub added : new ≡ noted (record { name = name_of name; file = file }) old
