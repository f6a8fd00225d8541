-- The log read back as the calls that wrote it.
use Rattle.std.specs.Prelude.{ℕ, ◌++◌, List, [], ◌∷◌, Option, Some, None, if◌then◌else◌}
use Rattle.std.specs.Option.{option_to_list}
use Rattle.page_core.specs.declared.change.Change.{Change}
use Rattle.page_core.specs.declared.change.Change.TheVariants.{Set, Add}
use Rattle.log_records.specs.declared.record.Record.{Record}
use Rattle.log_records.specs.declared.record.Record.TheVariants.{Begin, Update, Comp, Commit, Abort}
use Rattle.log_records.specs.declared.record.Record.TheVariants.{End, BeginChkpt, ChkptPages}
use Rattle.log_records.specs.declared.record.Record.TheVariants.{ChkptTxns, EndChkpt, Extend}
use Rattle.log_rules.specs.Transactions.{is_rolling}

-- a call that a log shows: a begin with the number that it answered, and a Set without the number
-- that it replaced
pub data Call : Type 0 where
  BeginCall : (txn : ℕ) → Call
  SetCall : (txn page slot number : ℕ) → Call
  AddCall : (txn page slot amount : ℕ) → Call
  UndoCall : (txn : ℕ) → Call
  UndoToCall : (txn : ℕ) → Call
  CommitCall : (txn : ℕ) → Call
  AbortCall : (txn : ℕ) → Call
  ExtendCall : (pages : ℕ) → Call

abbrev pub change_call : ℕ → ℕ → ℕ → Change → Call
change_call txn page slot (Set before after) = SetCall txn page slot after
change_call txn page slot (Add amount) = AddCall txn page slot amount

-- the call that a record shows behind these. A Comp of a transaction that rolls back is a step of
-- its rollback, as its End is; any other one goes back to a savepoint. A checkpoint's record shows
-- none
abbrev pub call_of : List Record → Record → Option Call
call_of before (Begin lsn txn) = Some (BeginCall txn)
call_of before (Update lsn txn prev page slot change) = Some (change_call txn page slot change)
call_of before (Comp lsn txn prev undo_next page slot change) =
    Some (if is_rolling before txn then UndoCall txn else UndoToCall txn)
call_of before (Commit lsn txn prev) = Some (CommitCall txn)
call_of before (Abort lsn txn prev) = Some (AbortCall txn)
call_of before (End lsn txn prev) = Some (UndoCall txn)
call_of before (BeginChkpt lsn) = None
call_of before (ChkptPages lsn begin pages) = None
call_of before (ChkptTxns lsn begin txn state last undo) = None
call_of before (EndChkpt lsn begin redo) = None
call_of before (Extend lsn pages) = Some (ExtendCall pages)

abbrev pub work_from : List Record → List Record → List Call
work_from before [] = []
work_from before (r ∷ rs) =
    option_to_list (call_of before r) ++ work_from (before ++ r ∷ []) rs

-- the calls that the log shows, in order: each record is read with those before it
abbrev pub work : List Record → List Call
work rs = work_from [] rs
