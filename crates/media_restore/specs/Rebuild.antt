-- A restore from its load to its undo, and a list of events with a restore after it.
use Rattle.std.specs.Prelude.{ℕ, ◌≡◌, List, length, Option, Some, None, Result, IfOk, IfErr, OnOk}
use Rattle.std.specs.List.{All}
use Rattle.std.specs.Option.{option_map}
use Rattle.log_records.specs.Image.{redo_all}
use Rattle.log_records.specs.Log.{Log, page_count}
use Rattle.log_rules.specs.Work.{work}
use Rattle.log_store.specs.declared.master.Master.{Master}
use Rattle.copy_coverage.specs.Kept.{IsKeptOf}
use Rattle.loser_undo.specs.declared.fault.UndoFault.TheVariants as undo
use Rattle.loser_undo.specs.Recovery.{HasCommitted, Recovery, undone}
use Rattle.loser_undo.specs.Undo.{after_undo}
use Rattle.engine_calls.specs.declared.event.Answer.{Answer}
use Rattle.engine_calls.specs.declared.event.Event.{Event}
use Rattle.engine_calls.specs.declared.refusal.Refusal.{Refusal}
use Rattle.engine_rules.specs.Accepted.{accepted}
use Rattle.engine_rules.specs.AnsweredCommits.{StandsIn, answered_commits}
use Rattle.engine_rules.specs.Catalogue.{CatalogueEntry, being_read, is_complete, was_dropped}
use Rattle.engine_rules.specs.Catalogue.{catalogue, entry_at}
use Rattle.engine_rules.specs.EngineState.{EngineState, log_of, master_record, new_state}
use Rattle.engine_rules.specs.Run.{Run}
use Rattle.media_restore.specs.declared.fault.LoadFault.{LoadFault}
use Rattle.media_restore.specs.declared.fault.LoadFault.TheVariants as load
use Rattle.media_restore.specs.declared.fault.LoadFault.TheVariants.{NoCopy, CopyNotComplete}
use Rattle.media_restore.specs.declared.fault.RedoFault.TheVariants as redo
use Rattle.media_restore.specs.declared.fault.Refused.{Refused}
use Rattle.media_restore.specs.declared.fault.Refused.TheVariants.{Load, Redo, Undo}
use Rattle.media_restore.specs.Load.{cut_refusal, first_of, kept_log}

-- ---- a restore

-- a log, with the pages that redo of all of it makes of formatted ones
abbrev pub redone_whole : Log → Master → Recovery
redone_whole log master = record {
  log = log;
  master = master;
  pages = redo_all log.records (page_count log);
}

-- what is restored of a kept log: undo of it, on the pages that redo of all of it makes. So its log
-- is the kept one after undo, its pages are those that this log makes, and each slot of them has
-- what was committed
pub record IsRestored (kept : Log) (it : Recovery) : Type 0 where
  pub redone : it ≡ undone (redone_whole kept it.master)
  pub log : it.log ≡ record kept { records = after_undo kept.records }
  pub pages : it.pages ≡ redo_all (after_undo kept.records) (page_count kept)
  pub committed : HasCommitted kept.records it.pages

-- memory was wanting, and nothing else
abbrev pub IsOfMemory : Refused → Type 0
IsOfMemory (Load load.OutOfMemory) = Unit {0}
IsOfMemory (Redo redo.OutOfMemory) = Unit {0}
IsOfMemory (Undo undo.OutOfMemory) = Unit {0}
IsOfMemory other = ⊥

-- where there is a refusal of the load, a restore is refused for it, and else for want of memory
-- alone: it never finds the log full
abbrev pub RestoreRefuses : Option LoadFault → Refused → Type 0
RestoreRefuses (Some fault) why = why ≡ Load fault
RestoreRefuses None why = IsOfMemory why

-- ---- a list of events, and a restore after it

-- of a copy, as events and replies alone tell of it
abbrev pub entry_refusal : CatalogueEntry → Option LoadFault
entry_refusal (being_read kind marks) = Some CopyNotComplete
entry_refusal (is_complete kind marks) = None
entry_refusal was_dropped = Some NoCopy

-- the refusal that needs no memory, of a copy of this catalogue and of a cut, where the log has so
-- many records and is forced so far
abbrev pub restore_refusal : List CatalogueEntry → ℕ → ℕ → ℕ → ℕ → Option LoadFault
restore_refusal entries forced_end count copy cut =
    first_of (entry_refusal (entry_at entries copy)) (cut_refusal forced_end count cut)

-- a list of events is played on a new engine with so many pages and frames, which ends as e, and a
-- volume is restored of what it leaves
pub record IsRebuilt (pages frames : ℕ) (events : List Event) (copy cut : ℕ)
    (replies : List (Result Answer Refusal)) (outcome : Result Recovery Refused)
    (e : EngineState) : Type 0 where
  -- the replies are those of a run
  pub run : Run (new_state pages frames) events replies e
  -- the log shows the calls that were accepted, and no others
  pub work : work e.log ≡ accepted events replies
  -- whatever a crash leaves of the log has the record of each commit that was answered
  pub commits : (left : Log) → IsKeptOf (log_of e) e.forced_end left
      → All (StandsIn left.records) (answered_commits events replies)
  -- a restore is refused by what the replies tell of the copies, and by how many records are forced
  pub let_in : OnOk outcome
      (restore_refusal (catalogue pages events replies) e.forced_end (length e.log) copy cut
      ≡ None)
  pub refused : IfErr outcome (RestoreRefuses
      (restore_refusal (catalogue pages events replies) e.forced_end (length e.log) copy cut))
  -- what is kept of the log is what a crash may leave
  pub kept : OnOk outcome (IsKeptOf (log_of e) e.forced_end (kept_log (log_of e) cut))
  -- and the volume is restored of it
  pub restored : IfOk outcome (IsRestored (kept_log (log_of e) cut))
  -- with the master record that the engine left
  pub master : IfOk outcome (λ it. option_map master_record e.master ≡ Some it.master)
