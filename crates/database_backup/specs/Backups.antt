-- What a backup makes: a checkpoint, a copy behind it, and files in a second folder.
use Rattle.std.specs.Prelude.{ℕ, ◌≡◌, ◌≢◌, ◌⊎◌, Bool, true, false, codes, IfSome, List, [], ◌∷◌}
use Rattle.std.specs.Prelude.{None, Option, Some, suc, zero}
use Rattle.std.specs.Io.{StartsWith}
use Rattle.std.specs.List.{All}
use Rattle.copy_vault.specs.CopyWrite.{WritesCopy}
use Rattle.copy_vault.specs.Vault.{CopyState, complete_of, state_of}
use Rattle.engine_rules.specs.EngineState.{EngineState}
use Rattle.copy_vault.specs.Copy.{CopyView}
use Rattle.copy_vault.specs.declared.copy_id.CopyKind.{CopyKind}
use Rattle.copy_vault.specs.declared.copy_id.CopyKind.TheVariants.{Full, Inc}
use Rattle.copy_vault.specs.declared.copy_id.TheConstants.{MAX_COPIES}
use Rattle.manifest.specs.Entries.{Listed, Noted, file_of}
use Rattle.manifest.specs.Text.{manifest_text}
use Rattle.page_core.specs.declared.page.TheConstants.{MAX_PAGES}
use Rattle.saved_files.specs.Folder.{Entries, FolderEntry, IsSame, KeepsOthers, absent, stored}
use Rattle.saved_files.specs.Folder.{unsynced}
use Rattle.saved_files.specs.PutFault.{bytes_by}
use Rattle.saved_files.specs.Saved.{name_of}
use Rattle.saved_files.specs.declared.saved_name.SavedName.TheVariants as saved
use Rattle.database_session.specs.Closing.{ClosesWell}
use Rattle.database_files.specs.DatabaseFolder.{HasBytes, HasFile}
use Rattle.database_files.specs.Found.{IsFoundIn, SpellsManifest}
use Rattle.database_files.specs.Kept.{Names}
use Rattle.database_opening.specs.Opened.{Begins}
use Rattle.database_files.specs.Standing.{IsUnfinished, AddsCopies}
use Rattle.database_opening.specs.declared.first_line.FirstLine.{FirstLine}
use Rattle.session_lines.specs.declared.operator_command.OperatorCommand.TheVariants.{Copy}
use Rattle.database_session.specs.CopyBehindPoint.{CopiesBehindPoint}

-- the file of that copy stands in a folder
abbrev pub IsCopyPut : ℕ → EngineState → Option Entries → Type 0
IsCopyPut id engine entries =
    HasFile (name_of (saved.Copy id)) (bytes_by (WritesCopy engine.copies id)) entries

-- the parent that a call asks for: none for a full copy, or the one that it tells; else it is
-- chosen
abbrev pub IsAskedFor : Bool → Option ℕ → Option ℕ → Type 0
IsAskedFor true told parent = parent ≡ None
IsAskedFor false (Some id) parent = parent ≡ Some id
IsAskedFor false None parent = Unit {0}

-- an open database made a checkpoint and such a copy, and was closed well
pub record BacksUp (full : Bool) (told : Option ℕ) (old new : EngineState) : Type 0 where
  pub parent : Option ℕ
  pub asked : IsAskedFor full told parent
  pub id : ℕ
  pub between : EngineState
  pub copies : CopiesBehindPoint parent id old between
  pub closing : ClosesWell between new

-- the database of a folder was opened, and backed up so
pub record WasBackedUp (full : Bool) (told : Option ℕ) : Type 0 where
  pub log : Option ℕ
  pub ids : List ℕ
  pub first : FirstLine
  pub begun : EngineState
  pub begins : Begins None false log ids None MAX_PAGES first begun
  pub ended : EngineState
  pub backs_up : BacksUp full told begun ended

-- ---- the files of a backup in a second folder

-- the manifest that stands there, if one does, is of this database
abbrev pub HasManifestOf : List ℕ → Option Entries → Type 0
HasManifestOf database entries = (found : Option Listed)
    × IsFoundIn SpellsManifest entries (codes "manifest") found
    × IfSome found (λ it. it.database ≡ database)

-- a log that is stored there is a beginning of this one
abbrev pub IsBeginningOf : List ℕ → FolderEntry → Type 0
IsBeginningOf log absent = Unit {0}
IsBeginningOf log unsynced = Unit {0}
IsBeginningOf log (stored older) = StartsWith log older

-- a copy that is stored there has the bytes of the first folder's
abbrev pub IsCopyOf : Option Entries → List ℕ → FolderEntry → Type 0
IsCopyOf first name absent = Unit {0}
IsCopyOf first name unsynced = Unit {0}
IsCopyOf first name (stored bytes) = HasBytes first name bytes

-- what stands there is of the same database as this log: the log there is a beginning of it, a
-- master record stands only beside that, and each of these copies that is there is the first
-- folder's
pub record IsOfSame (first : Option Entries) (log ids : List ℕ) (second : Entries) : Type 0 where
  pub begins : IsBeginningOf log (second (name_of saved.Log))
  pub master : second (name_of saved.Log) ≡ absent → second (name_of saved.Master) ≡ absent
  pub same : All (λ id. IsCopyOf first (name_of (saved.Copy id))
      (second (name_of (saved.Copy id)))) ids

-- a file of the first folder stands there too: its bytes are stored, and a manifest names just them
pub record IsBackedUp (first : Option Entries) (listed : List Noted) (name : List ℕ)
    (second : Entries) : Type 0 where
  pub bytes : List ℕ
  pub read : HasBytes first name bytes
  pub there : second name ≡ stored bytes
  pub named : Names listed name (λ it. it ≡ bytes)

-- this holds, unless a file stood there that was not synced: of that it is not known which bytes
-- are stored, and it stays
abbrev pub UnlessUnsynced : FolderEntry → Type 0 → Type 0
UnlessUnsynced absent fact = fact
UnlessUnsynced unsynced fact = Unit {0}
UnlessUnsynced (stored bytes) fact = fact

-- the log, the master record and these copies stand there too, and the log goes on from the one
-- that stood there
pub record AreBackedUp (first : Option Entries) (ids : List ℕ) (listed : List Noted)
    (old new : Entries) : Type 0 where
  pub log : IsBackedUp first listed (name_of saved.Log) new
  pub goes_on : IsBeginningOf log.bytes (old (name_of saved.Log))
  pub copies : All (λ id. UnlessUnsynced (old (name_of (saved.Copy id)))
      (IsBackedUp first listed (name_of (saved.Copy id)) new)) ids
  pub master : IsBackedUp first listed (name_of saved.Master) new

-- and so does a manifest of this database, which names them
pub record IsBackup (first : Option Entries) (ids database : List ℕ) (old new : Entries)
    : Type 0 where
  pub manifest : Listed
  pub of_this : manifest.database ≡ database
  pub files : AreBackedUp first ids manifest.entries old new
  pub placed : new (codes "manifest") ≡ stored (manifest_text manifest)

-- what a copy of this kind stands on
abbrev pub parent_of_kind : CopyKind → Option ℕ
parent_of_kind Full = None
parent_of_kind (Inc parent) = Some parent

-- and the complete one, if there is one
abbrev pub parent_of_copy : Option CopyView → Option ℕ
parent_of_copy None = None
parent_of_copy (Some copy) = parent_of_kind copy.kind

-- a copy, the one that it stands on, and so on to a full one; so many at most
abbrev pub chain_down : List CopyState → ℕ → Option ℕ → List ℕ
chain_down copies zero next = []
chain_down copies (suc n) None = []
chain_down copies (suc n) (Some id) =
    id ∷ chain_down copies n (parent_of_copy (complete_of (state_of copies id)))

-- as many as a vault may have
abbrev pub chain_from : List CopyState → ℕ → List ℕ
chain_from copies id = chain_down copies MAX_COPIES (Some id)

-- ---- what a backup keeps there, however it ends

-- all is as it was, unless what stood there is of the same database
abbrev pub KeepsAnother : Option Entries → List ℕ → Entries → Entries → Type 0
KeepsAnother first ids old new = IsSame old new
    ⊎ ((log : List ℕ) × HasBytes first (name_of saved.Log) log × IsOfSame first log ids old)

-- the manifest is as it was, unless all stands there that the new one names: it is put last
abbrev pub PutsManifestLast : Option Entries → List ℕ → List ℕ → Entries → Entries → Type 0
PutsManifestLast first ids database old new =
    (new (codes "manifest") ≡ old (codes "manifest")) ⊎ IsBackup first ids database old new

-- but for the log, the master record, the manifest and what is unfinished, no file is replaced or
-- removed
abbrev pub KeepsOtherFiles : Entries → Entries → Type 0
KeepsOtherFiles old new = (n : List ℕ) → n ≢ name_of saved.Log → n ≢ name_of saved.Master
    → n ≢ codes "manifest" → ¬ IsUnfinished n → old n ≢ absent → new n ≡ old n

-- the file of this name is the first folder's, whole
abbrev pub IsFirsts : Option Entries → List ℕ → Entries → Type 0
IsFirsts first name new = (bytes : List ℕ) × HasBytes first name bytes × (new name ≡ stored bytes)

-- it is as it was, or that one
abbrev pub IsOldOrFirst : Option Entries → List ℕ → Entries → Entries → Type 0
IsOldOrFirst first name old new = (new name ≡ old name) ⊎ IsFirsts first name new

-- so is the log, and so is the master record; and that is put only where the log is the first
-- folder's
pub record KeepsOrPuts (first : Option Entries) (old new : Entries) : Type 0 where
  pub log : IsOldOrFirst first (name_of saved.Log) old new
  pub master : IsOldOrFirst first (name_of saved.Master) old new
  pub order : (new (name_of saved.Master) ≡ old (name_of saved.Master))
      ⊎ IsFirsts first (name_of saved.Log) new

-- so it is with all that stood there
pub record KeepsTheRest (first : Option Entries) (ids database : List ℕ) (old new : Entries)
    : Type 0 where
  pub another : KeepsAnother first ids old new
  pub last : PutsManifestLast first ids database old new
  pub older : KeepsOrPuts first old new
  pub others : KeepsOtherFiles old new

-- what comes of a copy: where nothing stood, that of the first folder is put; else it stays; and
-- just its bytes are named
abbrev pub IsFilled : Option Entries → List Noted → List ℕ → FolderEntry → Entries → Type 0
IsFilled first listed name absent new = IsBackedUp first listed name new
IsFilled first listed name unsynced new = new name ≡ unsynced
IsFilled first listed name (stored bytes) new =
    (new name ≡ stored bytes) × Names listed name (λ it. it ≡ bytes)

-- and all else is as before
pub record FillsCopy (first : Option Entries) (listed : List Noted) (name : List ℕ)
    (old new : Entries) : Type 0 where
  pub filled : IsFilled first listed name (old name) new
  pub others : KeepsOthers name old new

-- so it is with each of these copies
pub record FillsCopies (first : Option Entries) (listed : List Noted) (ids : List ℕ)
    (old new : Entries) : Type 0 where
  pub filled : All (λ id. IsFilled first listed (name_of (saved.Copy id))
      (old (name_of (saved.Copy id))) new) ids
  pub others : AddsCopies old new

-- what is noted of files that are no copies is as before
abbrev pub NotesCopies : List Noted → List Noted → Type 0
NotesCopies old new =
    (n : List ℕ) → ¬ StartsWith n (codes "copy-") → file_of n new ≡ file_of n old
