-- The note of a clean closing.
use Rattle.std.specs.Prelude.{◌≡◌, ◌⊎◌, Option, codes}
use Rattle.engine_rules.specs.EngineState.{EngineState, end}
use Rattle.saved_files.specs.Folder.{Entries}
use Rattle.saved_files.specs.PutFault.{bytes_by}
use Rattle.std.specs.Io.KnownBytes.{Appends}
use Rattle.database_session.specs.Calls.{IsNoFault, IsOfClosing, RunsBy}
use Rattle.database_files.specs.DatabaseFolder.{HasFile}
use Rattle.database_session.specs.PageWrites.{HasNoDirtyPage}
use Rattle.database_files.specs.Closed.{note_of}

-- a database was closed well: the log was forced and pages were written, by calls in which no file
-- failed, all of the log is forced, and no page is dirty
abbrev pub ClosesWell : EngineState → EngineState → Type 0
ClosesWell old new =
    RunsBy IsOfClosing IsNoFault old new × (new.forced_end ≡ end new) × HasNoDirtyPage new

-- where a database was closed, it kept its folder as it was, or it was closed well
abbrev pub IsClosed : EngineState → EngineState → Type 0 → Type 0
IsClosed old new is_kept = is_kept ⊎ ClosesWell old new

-- the note of a closing stands in a folder: it says where the log of this engine ends
abbrev pub IsNoted : EngineState → Option Entries → Type 0
IsNoted engine =
    HasFile (codes "closed") (bytes_by (λ old new. Appends old new (note_of (end engine))))
