-- What an opening finds in a folder: which names something has, and what the files beside the log
-- spell.
use Rattle.std.specs.Prelude.{ℕ, ◌≡◌, ◌≢◌, ◌↔◌, ◌<◌, ◌^◌, IfSome, IsTrue, List, codes, decimal, map}
use Rattle.std.specs.Prelude.{None, Option, Some, string_bytes, ◌≤◌}
use Rattle.std.specs.List.{All, Contains}
use Rattle.copy_vault.specs.Archive.{SpellsCopy}
use Rattle.copy_vault.specs.ArchiveFault.{IsOutside}
use Rattle.copy_vault.specs.declared.archive_fault.ArchiveFault.{ArchiveFault}
use Rattle.copy_vault.specs.Copy.{CopyView}
use Rattle.log_store.specs.Master.{SpellsMaster}
use Rattle.log_store.specs.declared.master.Master.{Master}
use Rattle.manifest.specs.Entries.{IsManifest, Listed}
use Rattle.manifest.specs.Text.{manifest_text}
use Rattle.saved_files.specs.Folder.{Entries, FolderEntry, absent, stored, unsynced}
use Rattle.saved_files.specs.Saved.{name_of}
use Rattle.saved_files.specs.declared.saved_name.SavedName.TheVariants as saved
use Rattle.database_files.specs.Closed.{SpellsNote}
use Rattle.database_files.specs.Standing.{IsUnfinished}
use Rattle.database_files.specs.declared.closed_note.ClosedNote.{ClosedNote}
use Rattle.database_files.specs.declared.found_copies.CopyFile.{CopyFile}
use Rattle.database_files.specs.declared.found_copies.FoundCopy.{FoundCopy}
use Rattle.database_files.specs.declared.found_copies.FoundCopy.TheVariants as found
use Rattle.database_files.specs.declared.inventory.Inventory.{Inventory}
use Rattle.log_records.specs.declared.limits.TheConstants.{HEADER_BYTES}
use Rattle.database_files.specs.Evidence.{log_line}

-- ---- what bytes spell

-- what is read of these bytes: what they spell, or nothing where they spell nothing
abbrev pub IsReadOf : {T : Type 0} → (T → List ℕ → Type 0) → List ℕ → Option T → Type 0
IsReadOf {T} spells bytes None = (it : T) → ¬ spells it bytes
IsReadOf {T} spells bytes (Some it) = spells it bytes

-- a number above 0 that fits so many bits, in decimal digits
pub record SpellsNumber (bits number : ℕ) (text : List ℕ) : Type 0 where
  pub some : 0 < number
  pub fits : number < 2 ^ bits
  pub spelled : text ≡ decimal number

-- the id that the name of a copy has
abbrev pub IsCopyId : ℕ → Type 0
IsCopyId id = (0 < id) × (id < 2 ^ 32)

-- the name of the copy of this id
abbrev pub NamesCopy : ℕ → List ℕ → Type 0
NamesCopy id name = IsCopyId id × (name ≡ name_of (saved.Copy id))

-- the text of a manifest
pub record SpellsManifest (it : Listed) (bytes : List ℕ) : Type 0 where
  pub valid : IsManifest it
  pub spelled : bytes ≡ manifest_text it

-- what is read of the file of a copy: the copy that it spells; or it spells none, or could not be
-- read
abbrev pub IsCopyReadOf : List ℕ → FoundCopy → Type 0
IsCopyReadOf bytes (found.Whole copy) = SpellsCopy copy bytes
IsCopyReadOf bytes (found.Wrong why) = (copy : CopyView) → ¬ SpellsCopy copy bytes
IsCopyReadOf bytes (found.Unread why) = Unit {0}

-- what is found where the archive was not read: that it spells none, if the fault is of its bytes
abbrev pub IsRefusedFor : ArchiveFault → FoundCopy → Type 0
IsRefusedFor fault (found.Whole copy) = ⊥
IsRefusedFor fault (found.Wrong why) = ¬ IsOutside fault
IsRefusedFor fault (found.Unread why) = Unit {0}

-- ---- which names something has

-- it tells just which names of a database's files are had, and only of names of unfinished files
-- that these are to go
pub record TellsNames (is_had : List ℕ → Type 0) (it : Inventory) : Type 0 where
  pub log : IsTrue it.has_log ↔ is_had (codes "log")
  pub volume : IsTrue it.has_volume ↔ is_had (codes "volume")
  pub master : IsTrue it.has_master ↔ is_had (codes "master")
  pub closed : IsTrue it.has_closed ↔ is_had (codes "closed")
  pub manifest : IsTrue it.has_manifest ↔ is_had (codes "manifest")
  pub copies : (id : ℕ) → Contains it.copies.items id ↔ (IsCopyId id × is_had (name_of (saved.Copy id)))
  pub unfinished : All IsUnfinished (map string_bytes it.unfinished.items)

-- something has a name in a folder
abbrev pub IsHadIn : Entries → List ℕ → Type 0
IsHadIn entries name = entries name ≢ absent

-- it tells of what stands in a folder, as far as that is known
abbrev pub IsInventoryOf : Option Entries → Inventory → Type 0
IsInventoryOf entries it = IfSome entries (λ there. TellsNames (IsHadIn there) it)

-- ---- what the files beside the log spell

-- what is found under a name is what stands there: nothing where nothing does, or what is read of
-- the bytes that are stored; of a file that was not synced it is not known which these are
abbrev pub IsFoundAt : {T : Type 0} → (T → List ℕ → Type 0) → FolderEntry → Option T → Type 0
IsFoundAt spells absent it = it ≡ None
IsFoundAt spells unsynced it = Unit {0}
IsFoundAt spells (stored bytes) it = IsReadOf spells bytes it

-- so it is as far as it is known what stands there
abbrev pub IsFoundIn : {T : Type 0} → (T → List ℕ → Type 0) → Option Entries → List ℕ → Option T
    → Type 0
IsFoundIn spells entries name it = IfSome entries (λ there. IsFoundAt spells (there name) it)

-- it could not be read
abbrev pub IsUnread : FoundCopy → Type 0
IsUnread (found.Whole copy) = ⊥
IsUnread (found.Wrong why) = ⊥
IsUnread (found.Unread why) = Unit {0}

-- so it is with a copy; one that does not stand there cannot be read
abbrev pub IsCopyAt : FolderEntry → FoundCopy → Type 0
IsCopyAt absent it = IsUnread it
IsCopyAt unsynced it = Unit {0}
IsCopyAt (stored bytes) it = IsCopyReadOf bytes it

abbrev pub IsCopyIn : Entries → CopyFile → Type 0
IsCopyIn there file = IsCopyAt (there (name_of (saved.Copy file.id))) file.found

-- a copy that could not be read was asked for by its name
abbrev pub IsUnreadOnceTried : (List ℕ → Type 0) → CopyFile → Type 0
IsUnreadOnceTried was_asked file = IsUnread file.found → was_asked (name_of (saved.Copy file.id))

-- what was found beside the log is what stands there, and no copy is left out
pub record AreFoundAt (there : Entries) (note : Option ClosedNote) (manifest : Option Listed)
    (master : Option Master) (copies : List CopyFile) : Type 0 where
  pub closed : IsFoundAt SpellsNote (there (codes "closed")) note
  pub listed : IsFoundAt SpellsManifest (there (codes "manifest")) manifest
  pub named : IsFoundAt SpellsMaster (there (codes "master")) master
  pub copied : All (IsCopyIn there) copies
  pub all : (id : ℕ) → IsCopyId id → there (name_of (saved.Copy id)) ≢ absent
      → Contains (map (λ file. file.id) copies) id

-- so it is as far as it is known what stands there
abbrev pub AreFoundIn : Option Entries → Option ClosedNote → Option Listed → Option Master
    → List CopyFile → Type 0
AreFoundIn entries note manifest master copies =
    IfSome entries (λ there. AreFoundAt there note manifest master copies)

-- no orphan stands in a folder: no file that a database has only once its log has a header, and no
-- volume without a log
pub record HasNoOrphan (there : Entries) : Type 0 where
  pub copies : (id : ℕ) → IsCopyId id → there (name_of (saved.Copy id)) ≡ absent
  pub master : there (codes "master") ≡ absent
  pub closed : there (codes "closed") ≡ absent
  pub volume : there (codes "log") ≡ absent → there (codes "volume") ≡ absent

-- nothing that stands there tells of a log that had a record: no such file, and no manifest that
-- names more bytes of a log than a header has
pub record TellsOfNoLog (there : Entries) : Type 0 where
  pub files : HasNoOrphan there
  pub manifest : Option Listed
  pub listed : IsFoundAt SpellsManifest (there (codes "manifest")) manifest
  pub header : IfSome (log_line manifest) (λ it. it.bytes ≤ HEADER_BYTES)
