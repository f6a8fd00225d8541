-- A folder whose files are sound.
use Rattle.std.specs.Prelude.{ℕ, ◌≡◌, ◌≢◌, ◌++◌, ◌∷◌, [], IfSome, List, Option, codes, map}
use Rattle.std.specs.List.{All, Contains}
use Rattle.checked_files.specs.declared.known.ManifestUse.{ManifestUse}
use Rattle.copy_audit.specs.Audited.{AreAudited}
use Rattle.database_files.specs.Closed.{SpellsNote}
use Rattle.database_files.specs.Found.{IsCopyId, IsFoundIn}
use Rattle.database_files.specs.declared.closed_note.ClosedNote.{ClosedNote}
use Rattle.file_view.specs.declared.copy_header.CopyHeader.{CopyHeader}
use Rattle.media_restore.specs.MasterCheck.{IsRightMaster}
use Rattle.saved_files.specs.Folder.{Entries, absent}
use Rattle.saved_files.specs.Saved.{name_of}
use Rattle.saved_files.specs.declared.saved_name.SavedName.TheVariants.{Copy}
use Rattle.folder_reports.specs.Named.{IsMet}
use Rattle.folder_reports.specs.Reading.{HasAtLeast, IsHeaderIn, IsWhole, bytes_in}

-- the log of a folder has all that a note of a closing tells of
abbrev pub HasAllOf : Option Entries → ClosedNote → Type 0
HasAllOf entries note = IfSome entries (λ there. HasAtLeast (there (codes "log")) note.end)

-- so it has of the last one, if there is one
pub record HasAllNoted (entries : Option Entries) : Type 0 where
  pub note : Option ClosedNote
  pub found : IsFoundIn SpellsNote entries (codes "closed") note
  pub reached : IfSome note (HasAllOf entries)

-- the master record is right by the log
abbrev pub HasRightMaster : Option Entries → Type 0
HasRightMaster entries = IsRightMaster (bytes_in entries (codes "log")) (bytes_in entries (codes "master"))

-- the bytes of the copies of these ids
abbrev pub archives_of : Option Entries → List ℕ → List (Option (List ℕ))
archives_of entries ids = map (λ id. bytes_in entries (name_of (Copy id))) ids

-- this id is the last one of these
abbrev pub EndsWith : ℕ → List ℕ → Type 0
EndsWith id ids = (older : List ℕ) × (ids ≡ older ++ id ∷ [])

-- the copy of this id is the last one of a chain that is sound by the log
pub record IsAudited (entries : Option Entries) (id : ℕ) : Type 0 where
  pub older : List ℕ
  pub sound : AreAudited (bytes_in entries (codes "log")) (archives_of entries (older ++ id ∷ []))

-- so it is, and its file has a header that says which copy it is
pub record IsSoundCopy (entries : Option Entries) (id : ℕ) : Type 0 where
  pub header : CopyHeader
  pub begins : IsHeaderIn entries (name_of (Copy id)) header
  pub named : header.id ≡ id
  pub audited : IsAudited entries id

-- these are the headers of the copies of these ids
pub record AreHeadersOf (entries : Option Entries) (ids : List ℕ) (headers : List CopyHeader) : Type 0 where
  pub named : map (λ it. it.id) headers ≡ ids
  pub begin : All (λ it. IsHeaderIn entries (name_of (Copy it.id)) it) headers

-- each copy that stands in a folder has its id among these
abbrev pub ListsCopies : Option Entries → List ℕ → Type 0
ListsCopies entries ids = IfSome entries (λ there. (id : ℕ) → IsCopyId id
    → there (name_of (Copy id)) ≢ absent → Contains ids id)

-- the master record is right if there is a copy
abbrev pub HasMasterFor : Option Entries → List ℕ → Type 0
HasMasterFor entries [] = Unit {0}
HasMasterFor entries (id ∷ ids) = HasRightMaster entries

-- the log is a log to its end, the master record is right if there is a copy, and each copy is sound
pub record HasSoundCopies (entries : Option Entries) (ids : List ℕ) : Type 0 where
  pub log : IsWhole (bytes_in entries (codes "log"))
  pub master : HasMasterFor entries ids
  pub copies : All (IsSoundCopy entries) ids

-- a folder is sound: the log is a log to its end, and has all that the note of the last closing tells
-- of; and each copy that stands there is sound by the log, and the master record right if there is one
pub record IsSoundFolder (entries : Option Entries) : Type 0 where
  pub noted : HasAllNoted entries
  pub ids : List ℕ
  pub all : ListsCopies entries ids
  pub sound : HasSoundCopies entries ids

-- so it is, and each file that the manifest which counts names is that file
pub record IsVerified (others : List ℕ → Option (List ℕ)) (entries : Option Entries)
    (choice : ManifestUse) : Type 0 where
  pub named : IsMet others entries choice
  pub sound : IsSoundFolder entries
