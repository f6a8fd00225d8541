-- How a database begins a life.
use Rattle.std.specs.Prelude.{ℕ, ◌≡◌, ◌⊎◌, Bool, false, List, [], IfSome, IsSomeAnd, None}
use Rattle.std.specs.Prelude.{Option, Some, length, map}
use Rattle.std.specs.List.Sorted.{IsNonDecreasing}
use Rattle.engine_restart.specs.Lives.{GoesOnFrom}
use Rattle.engine_restart.specs.Restart.{RestartedView, undone_log}
use Rattle.engine_rules.specs.EngineState.{EngineState, new_state}
use Rattle.fuzzy_ckpt.specs.declared.point.Point.{Point}
use Rattle.log_prefix.specs.Front.{IsFrontOf, end_of}
use Rattle.log_prefix.specs.declared.cut.Cut.{Cut}
use Rattle.log_records.specs.Log.{Log, page_count}
use Rattle.log_store.specs.declared.master.Master.{Master}
use Rattle.manifest.specs.Entries.{Listed}
use Rattle.saved_files.specs.Folder.{Entries}
use Rattle.database_opening.specs.Copies.{TakesUp, ids_unread}
use Rattle.database_files.specs.DatabaseFolder.{HasHeadlessLog, HasLogBytes, HasLogOf, HasNoOtherVolume}
use Rattle.database_files.specs.DatabaseFolder.{IsWithoutLog}
use Rattle.database_files.specs.Evidence.{LacksNothing}
use Rattle.database_opening.specs.FirstLine.{told_of}
use Rattle.database_files.specs.Found.{AreFoundIn, TellsOfNoLog}
use Rattle.database_files.specs.Master.{IsUnnamed, TellsWrong}
use Rattle.database_files.specs.declared.closed_note.ClosedNote.{ClosedNote}
use Rattle.database_opening.specs.declared.first_line.FirstLine.{FirstLine}
use Rattle.database_opening.specs.declared.first_line.FirstLine.TheVariants.{New, Restarted}
use Rattle.database_files.specs.declared.found_copies.CopyFile.{CopyFile}
use Rattle.database_files.specs.declared.log_file.LogFile.{LogFile}

-- an engine goes on from this log, once what was open there is taken back, with those of the copies
-- in these files that know of nothing past its end, and are taken up
pub record GoesOnWith (log : Log) (files : List CopyFile) (engine : EngineState) : Type 0 where
  pub goes_on : GoesOnFrom (undone_log log) engine
  pub begun : RestartedView
  pub last : RestartedView
  pub log_is : begun.log ≡ undone_log log
  pub no_copy : begun.copies ≡ []
  pub taken : TakesUp (end_of log) begun files last
  pub copies : engine.copies ≡ last.copies

-- an engine with so many frames goes on from the longest front that is a log of the bytes of the
-- log's file, which are so many; it counts as many pages as were told, if a count was told; the
-- note of the last closing, the manifest, the master record and the file of each copy of these ids,
-- which rise, were weighed as they stand there, no other file has the name of the volume, and
-- unless the call says that what is left is to be opened, that log lacks nothing of which they
-- know; and this is told of it
pub record GoesOnFromFile (entries : Option Entries) (is_salvage : Bool) (count : ℕ) (ids : List ℕ)
    (pages : Option ℕ) (frames : ℕ) (first : FirstLine) (engine : EngineState) : Type 0 where
  pub bytes : List ℕ
  pub there : HasLogBytes entries bytes
  pub all : length bytes ≡ count
  pub log : Log
  pub cut : Option Cut
  pub front : IsFrontOf bytes (record { log = log; cut = cut })
  pub counted : IfSome pages (λ told. told ≡ page_count log)
  pub files : List CopyFile
  pub of_ids : map (λ file. file.id) files ≡ ids
  pub rise : IsNonDecreasing ids
  pub note : Option ClosedNote
  pub manifest : Option Listed
  pub master : Option Master
  pub found : AreFoundIn entries note manifest master files
  pub volume : HasNoOtherVolume entries
  pub lacks : is_salvage ≡ false → LacksNothing (end_of log) note manifest master files bytes
  pub goes_on : GoesOnWith log files engine
  pub framed : engine.frames ≡ frames
  pub told : first ≡ told_of log engine

-- it is a new one, of as many pages as were told, and that is told
abbrev pub IsNew : Option ℕ → ℕ → FirstLine → EngineState → Type 0
IsNew told frames first engine =
    IsSomeAnd told (λ pages. (engine ≡ new_state pages frames) × (first ≡ New pages))

-- it is such a new one, in a folder where nothing tells of a log, and no other file has the name of
-- the volume, as far as that is known
abbrev pub BeginsAnew : Option Entries → Option ℕ → ℕ → FirstLine → EngineState → Type 0
BeginsAnew entries told frames first engine =
    IfSome entries TellsOfNoLog × HasNoOtherVolume entries × IsNew told frames first engine

-- how many bytes the file of a log has, if there is one
abbrev pub len_of : {L : Type 0} → Option (LogFile L) → Option ℕ
len_of None = None
len_of (Some log) = Some log.len

-- a database is new where no log stands in its folder, or one that has fewer bytes than a header, or
-- just so many zeros, and nothing else there tells of one; else it goes on from the log that stands there, from all of
-- its bytes, with the copies of these ids; its first line tells which it is
abbrev pub Begins : Option Entries → Bool → Option ℕ → List ℕ → Option ℕ → ℕ → FirstLine
    → EngineState → Type 0
Begins entries is_salvage None ids told frames first engine =
    IsWithoutLog entries × BeginsAnew entries told frames first engine
Begins entries is_salvage (Some len) ids told frames first engine =
    (HasLogOf entries len × HasHeadlessLog entries
    × BeginsAnew entries told frames first engine)
    ⊎ GoesOnFromFile entries is_salvage len ids told frames first engine

-- what a session is handed of a database that goes on: the ids of the copies that
-- could not be read, the last checkpoint of the log, unless the master record names it, and whether
-- what stands as the master record is of another log; of a new one there is nothing
abbrev pub HandsOn : Option Entries → Bool → FirstLine → EngineState → List ℕ → Option Point → Bool
    → Type 0
HandsOn entries is_salvage (New pages) engine unread point is_wrong =
    (unread ≡ []) × (point ≡ None) × (is_wrong ≡ false)
HandsOn entries is_salvage (Restarted cut taken_back records) engine unread point is_wrong =
    (count : ℕ) × (ids : List ℕ) × (pages : Option ℕ) × (frames : ℕ)
    × (it : GoesOnFromFile entries is_salvage count ids pages frames
    (Restarted cut taken_back records) engine)
    × (unread ≡ ids_unread it.files) × IsUnnamed it.log it.master point
    × TellsWrong entries it.log it.master is_wrong
