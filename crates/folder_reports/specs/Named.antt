-- The files that a manifest names.
use Rattle.std.specs.Prelude.{ℕ, ◌≡◌, ◌&&◌, IfSome, List, None, Option, Some, codes}
use Rattle.std.specs.List.{All}
use Rattle.std.specs.Str.{bytes_eq}
use Rattle.checked_files.specs.Known.{has_grown, said_by}
use Rattle.checked_files.specs.declared.known.Known.{Known}
use Rattle.checked_files.specs.declared.known.Known.TheVariants.{Named, Nothing, Unnamed}
use Rattle.checked_files.specs.declared.known.ManifestUse.{ManifestUse}
use Rattle.checked_files.specs.declared.known.ManifestUse.TheVariants.{Aside, Beside, Told}
use Rattle.database_files.specs.Found.{IsFoundIn, SpellsManifest}
use Rattle.manifest.specs.Checking.{IsNamed}
use Rattle.manifest.specs.Entries.{Listed, file_of}
use Rattle.manifest.specs.declared.entry.FileSum.{FileSum}
use Rattle.saved_files.specs.Folder.{Entries, FolderEntry, absent, stored, unsynced}
use Rattle.folder_reports.specs.Reading.{IsLogLength}

-- ---- which manifest counts

-- this manifest counts for the files of a folder: the one that stands there, if one does; the one
-- that is told, which stands among other files; or none
abbrev pub Counts : (List ℕ → Option (List ℕ)) → Option Entries → ManifestUse → Option Listed → Type 0
Counts others entries Aside manifest = manifest ≡ None
Counts others entries Beside manifest = IsFoundIn SpellsManifest entries (codes "manifest") manifest
Counts others entries (Told place) manifest = (it : Listed) × (manifest ≡ Some it)
    × IfSome (others place.now) (SpellsManifest it)

-- ---- what it says of them

-- what stands there is the file that is named
abbrev pub IsNamedAt : FileSum → FolderEntry → Type 0
IsNamedAt file absent = ⊥
IsNamedAt file unsynced = Unit {0}
IsNamedAt file (stored bytes) = IsNamed file bytes

-- so it is under a name, as far as that is known
abbrev pub IsNamedIn : Option Entries → FileSum → List ℕ → Type 0
IsNamedIn entries file name = IfSome entries (λ there. IsNamedAt file (there name))

-- what a manifest says of the file of a name, beside a log of so many bytes: nothing of a master
-- record beside a log that has grown
abbrev pub said_at : Listed → Option ℕ → List ℕ → Known
said_at manifest log name = said_by (file_of name manifest.entries)
    (bytes_eq name (codes "master") && has_grown (file_of (codes "log") manifest.entries) log)

-- the file of a name is the one that is named, if one is
abbrev pub IsAsSaid : Option Entries → List ℕ → Known → Type 0
IsAsSaid entries name Nothing = Unit {0}
IsAsSaid entries name Unnamed = Unit {0}
IsAsSaid entries name (Named file) = IsNamedIn entries file name

-- each file that a manifest names stands in a folder, and is the one that is named, but for a master
-- record beside a log that has grown
pub record AreNamed (entries : Option Entries) (manifest : Listed) : Type 0 where
  pub log : Option ℕ
  pub measured : IsLogLength entries log
  pub each : All (λ entry. IsAsSaid entries entry.name (said_at manifest log entry.name)) manifest.entries

-- so it is with the manifest that counts, if one does
pub record IsMet (others : List ℕ → Option (List ℕ)) (entries : Option Entries) (choice : ManifestUse)
    : Type 0 where
  pub manifest : Option Listed
  pub counts : Counts others entries choice manifest
  pub named : IfSome manifest (AreNamed entries)
