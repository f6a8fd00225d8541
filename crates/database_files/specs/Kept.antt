-- The manifest that is kept: which files it names, and how much of a log that grows is summed.
use Rattle.std.specs.Prelude.{ℕ, ◌≡◌, ◌≢◌, ◌⊎◌, codes, IfSome, IsSome, List, None, Option, Some}
use Rattle.std.specs.Prelude.{◌-◌, ◌/◌, ◌++◌, Bool, true, if◌then◌else◌, take}
use Rattle.std.specs.Io.KnownBytes.{Appends}
use Rattle.manifest.specs.Entries.{Listed, Noted, file_of}
use Rattle.manifest.specs.Text.{manifest_text}
use Rattle.saved_files.specs.Folder.{Entries, absent}
use Rattle.saved_files.specs.PutFault.{bytes_by}
use Rattle.saved_files.specs.Saved.{name_of}
use Rattle.saved_files.specs.declared.saved_name.SavedName.TheVariants as saved
use Rattle.database_files.specs.Found.{IsFoundIn, SpellsManifest}
use Rattle.database_files.specs.DatabaseFolder.{HasFile}
use Rattle.std.specs.List.{flat_map}
use Rattle.std.specs.Str.{bytes_eq}
use Rattle.log_records.specs.Log.{Log, header_bytes}
use Rattle.log_records.specs.Record.{record_bytes}
use Rattle.manifest.specs.declared.entry.Extent.{Extent}
use Rattle.manifest.specs.declared.entry.Extent.TheVariants.{First, Whole}
use Rattle.manifest.specs.declared.entry.FileSum.{FileSum}
use Rattle.manifest.specs.Sums.{HasSummed, IsSumOf}
use Rattle.manifest.specs.declared.sums.Sums.{Sums}
use Rattle.database_files.specs.declared.kept_manifest.LogSums.{LogSums}

-- what is noted of the other names is as before
abbrev pub NotesOnly : List ℕ → List Noted → List Noted → Type 0
NotesOnly name old new = (n : List ℕ) → n ≢ name → file_of n new ≡ file_of n old

-- how many records of a log stand below an LSN
abbrev pub count_below : ℕ → ℕ
count_below lsn = lsn / 64 - 1

-- the bytes of a log up to that LSN
abbrev pub bytes_below : ℕ → Log → List ℕ
bytes_below lsn log =
    header_bytes log.pages ++ flat_map record_bytes (take (count_below lsn) log.records)

-- just the first bytes of this log are summed: its header and so many records
abbrev pub HasSummedLog : LogSums → Log → Type 0
HasSummedLog it log =
    HasSummed it.sums (header_bytes log.pages ++ flat_map record_bytes (take it.records log.records))

-- just the bytes of a log are summed that the line of a manifest names
abbrev pub HaveSummedLine : Option Sums → Option FileSum → Log → Type 0
HaveSummedLine None line log = Unit {0}
HaveSummedLine (Some sums) None log = Unit {0}
HaveSummedLine (Some sums) (Some line) log = HasSummed sums (bytes_below line.bytes log)

-- how much of a file is summed: of the log, which may grow, its first bytes, and all of another one
abbrev pub extent_of : List ℕ → Extent
extent_of name = if bytes_eq name (codes "log") then First else Whole

-- this manifest stands in a folder
abbrev pub IsManifestIn : Option Entries → Listed → Type 0
IsManifestIn entries it = HasFile (codes "manifest")
    (bytes_by (λ old new. Appends old new (manifest_text it))) entries

-- under this name a file of such bytes is named
pub record Names (entries : List Noted) (name : List ℕ) (fits : List ℕ → Type 0) : Type 0 where
  pub file : FileSum
  pub there : file_of name entries ≡ Some file
  pub extent : file.extent ≡ extent_of name
  pub bytes : List ℕ
  pub right : fits bytes
  pub sum : IsSumOf file.sum file.bytes bytes

-- but for the log, the master record and this copy, what is known of a file is as before
abbrev pub KeepsOtherLines : Option ℕ → List Noted → List Noted → Type 0
KeepsOtherLines copy old new = (name : List ℕ) → name ≢ name_of saved.Log
    → name ≢ name_of saved.Master → IfSome copy (λ id. name ≢ name_of (saved.Copy id))
    → file_of name new ≡ file_of name old

-- of the files that stand in a folder, as far as that is known, all is noted that was
abbrev pub KeepsLines : Option Entries → List Noted → List Noted → Type 0
KeepsLines entries old new =
    IfSome entries (λ there. (n : List ℕ) → there n ≢ absent → file_of n new ≡ file_of n old)

-- so it is, but for the log, where that is another one than the lines name
abbrev pub KeepsLinesOf : Option Entries → Bool → List Noted → List Noted → Type 0
KeepsLinesOf entries is_of_this old new = IfSome entries (λ there. (n : List ℕ) → there n ≢ absent
    → (n ≢ codes "log") ⊎ (is_of_this ≡ true) → file_of n new ≡ file_of n old)

-- so it is with the lines of the manifest that was found, if it still stands there; the log is the
-- one that it names where the bytes were summed
abbrev pub KeepsFoundLines : Option Entries → Option Sums → List Noted → List Noted → Type 0
KeepsFoundLines entries sums old new = IfSome entries (λ there. there (codes "manifest") ≢ absent
    → (n : List ℕ) → there n ≢ absent → (n ≢ codes "log") ⊎ IsSome sums
    → file_of n new ≡ file_of n old)

-- the name of a database is the one that a manifest has, if there is one
abbrev pub IsNameIn : Option Listed → List ℕ → Type 0
IsNameIn found name = IfSome found (λ it. it.database ≡ name)

-- the manifest that stands in a folder, if one does, is of the database of this name
abbrev pub HasManifestOf : List ℕ → Option Entries → Type 0
HasManifestOf database entries = (found : Option Listed)
    × IsFoundIn SpellsManifest entries (codes "manifest") found × IsNameIn found database

-- these lines are those of the manifest that stands there, without those of files that do not
pub record TakesLines (entries : Option Entries) (lines : List Noted) : Type 0 where
  pub found : Option Listed
  pub there : IsFoundIn SpellsManifest entries (codes "manifest") found
  pub kept : IfSome found (λ it. KeepsLines entries it.entries lines)
