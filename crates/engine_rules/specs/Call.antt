-- The record of a call.
use Rattle.std.specs.Prelude.{◌≡◌, Option, Some, None}
use Rattle.std.specs.Option.{option_map, option_map_or}
use Rattle.page_core.specs.declared.change.Change.TheVariants.{Set, Add}
use Rattle.log_records.specs.declared.record.Record.{Record}
use Rattle.log_records.specs.declared.record.Record.TheVariants as log
use Rattle.log_records.specs.Record.{IsOfTransaction}
use Rattle.log_rules.specs.Checkpoint.{open_checkpoint}
use Rattle.log_rules.specs.Linked.{number_in}
use Rattle.log_rules.specs.Transactions.{last_of, pending}
use Rattle.engine_calls.specs.declared.event.Event.{Event}
use Rattle.engine_calls.specs.declared.event.Event.TheVariants as event
use Rattle.engine_rules.specs.EngineState.{EngineState, abort_record, commit_record, comp_record, end}
use Rattle.engine_rules.specs.EngineState.{begin_ckpt_record, end_ckpt_record, end_record, extend_record}
use Rattle.engine_rules.specs.EngineState.{gathered_record, next_txn, taken_back, update_record}
use Rattle.engine_calls.specs.EventFits.{EventFits}
use Rattle.engine_rules.specs.Refusal.{refusal}

-- the record that an accepted event appends, if it appends one
abbrev pub record_for : EngineState → Event → Option Record
record_for s event.Begin = Some (log.Begin (end s) (next_txn s))
record_for s (event.Set txn page slot number) =
    Some (update_record s txn page slot (Set (number_in s.log page slot) number))
record_for s (event.Add txn page slot amount) = Some (update_record s txn page slot (Add amount))
record_for s (event.Read page slot) = None
record_for s event.CopyFull = None
record_for s (event.CopyInc parent) = None
record_for s (event.Take copy page) = None
record_for s (event.Seal copy) = None
record_for s (event.DropCopy copy) = None
record_for s (event.Repair copy page) = None
record_for s (event.Commit txn) = Some (commit_record s txn)
record_for s (event.Abort txn) = Some (abort_record s txn)
record_for s (event.UndoStep txn) =
    Some (option_map_or (comp_record s txn) (last_of (pending s.log txn)) (end_record s txn))
record_for s (event.Savepoint txn) = None
record_for s (event.UndoTo txn at) = option_map (comp_record s txn) (taken_back s txn at)
record_for s event.Force = None
record_for s (event.WriteBegin page) = None
record_for s (event.WriteEnd page) = None
record_for s event.CkptBegin = Some (begin_ckpt_record s)
record_for s event.CkptGather = gathered_record s
record_for s (event.Extend count) = Some (extend_record s count)
record_for s event.CkptEnd = option_map (end_ckpt_record s) (open_checkpoint s.log)

-- the record is that of a transaction's call that is accepted
pub record Calls (s : EngineState) (r : Record) : Type 0 where
  pub of_transaction : IsOfTransaction r
  pub call : Event
  pub fits : EventFits call
  pub accepted : refusal s call ≡ None
  pub made : record_for s call ≡ Some r
