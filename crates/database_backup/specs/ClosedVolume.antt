-- What a closed database leaves.
use Rattle.std.specs.Prelude.{ℕ, ◌≡◌, ◌<◌, List, None, length, slice_index_or, true, Option}
use Rattle.engine_rules.specs.EngineState.{EngineState}
use Rattle.page_core.specs.declared.page.Page.{Page}
use Rattle.log_prefix.specs.Front.{IsFrontOf, end_of}
use Rattle.log_records.specs.Log.{IsPageCount, Log, page_count}
use Rattle.loser_undo.specs.Recovery.{HasCommitted}
use Rattle.log_store.specs.declared.master.Master.{Master}
use Rattle.manifest.specs.Entries.{Listed}
use Rattle.database_backup.specs.Backups.{BacksUp}
use Rattle.database_files.specs.Closed.{IsVouched}
use Rattle.database_files.specs.Evidence.{LacksNothing}
use Rattle.database_files.specs.declared.closed_note.ClosedNote.{ClosedNote}
use Rattle.database_files.specs.declared.found_copies.CopyFile.{CopyFile}

-- the bytes of a log's file are all of them a log, the note of a clean closing says that it ended
-- there, what stands beside them knows of no more, and these are its pages, each slot with its
-- committed number
pub record IsLeftBy (bytes : List ℕ) (note : Option ClosedNote) (manifest : Option Listed)
    (master : Option Master) (copies : List CopyFile) (pages : List Page) : Type 0 where
  pub log : Log
  pub all : IsFrontOf bytes (record { log = log; cut = None })
  pub lacks : LacksNothing (end_of log) note manifest master copies bytes
  pub vouched : IsVouched note (end_of log)
  pub count : length pages ≡ page_count log
  pub counted : IsPageCount (length pages)
  pub committed : HasCommitted log.records pages

-- these are the pages of a closed database: its files leave them
pub record IsOfClosed (pages : List Page) : Type 0 where
  pub bytes : List ℕ
  pub note : Option ClosedNote
  pub manifest : Option Listed
  pub master : Option Master
  pub copies : List CopyFile
  pub left : IsLeftBy bytes note manifest master copies pages

-- both volumes have as many pages, and each slot the same number
pub record HaveSameNumbers (old new : List Page) : Type 0 where
  pub count : length new ≡ length old
  pub slots : (p : ℕ) (d : Page) → p < length old
      → (slice_index_or new p d).slots ≡ (slice_index_or old p d).slots

-- an open database made a complete checkpoint, and behind it a full copy, and was closed well
abbrev pub WasCopied : Type 0
WasCopied = (begun : EngineState) × (ended : EngineState) × BacksUp true None begun ended

-- a closed database has as many pages, and each slot the same number; it was copied before
pub record IsRenewed (pages : List Page) : Type 0 where
  pub copied : WasCopied
  pub new : List Page
  pub closed : IsOfClosed new
  pub same : HaveSameNumbers pages new

-- a closed database was read, and is renewed
pub record WasRenewed : Type 0 where
  pub old : List Page
  pub closed : IsOfClosed old
  pub renewed : IsRenewed old
