-- The calls of a run that were accepted.
use Rattle.std.specs.Prelude.{List, [], ◌∷◌, ◌++◌, Option, Some, None, Result, Ok, Err}
use Rattle.std.specs.Option.{option_to_list}
use Rattle.log_rules.specs.Work.{AbortCall, AddCall, BeginCall, Call, CommitCall}
use Rattle.log_rules.specs.Work.{ExtendCall, SetCall, UndoCall, UndoToCall}
use Rattle.engine_calls.specs.declared.event.Answer.{Answer}
use Rattle.engine_calls.specs.declared.event.Answer.TheVariants as answer
use Rattle.engine_calls.specs.declared.event.Event.{Event}
use Rattle.engine_calls.specs.declared.event.Event.TheVariants as event
use Rattle.engine_calls.specs.declared.refusal.Refusal.{Refusal}
use Rattle.engine_calls.specs.declared.refusal.Refusal.TheVariants.{CommitUnsure}

-- the call that an accepted event makes; a begin stands with the number that was answered, and a
-- step back to a savepoint that takes no change back is none
abbrev pub accepted_call : Event → Answer → Option Call
accepted_call event.Begin (answer.Began txn lsn) = Some (BeginCall txn)
accepted_call (event.Set txn page slot number) answer = Some (SetCall txn page slot number)
accepted_call (event.Add txn page slot amount) answer = Some (AddCall txn page slot amount)
accepted_call (event.Commit txn) answer = Some (CommitCall txn)
accepted_call (event.Abort txn) answer = Some (AbortCall txn)
accepted_call (event.UndoStep txn) answer = Some (UndoCall txn)
accepted_call (event.UndoTo txn at) (answer.Undid lsn) = Some (UndoToCall txn)
accepted_call (event.Extend count) answer = Some (ExtendCall count)
accepted_call event answer = None

-- the call that any reply shows: a Commit that is not known to be forced stands in the log, so it
-- counts
abbrev pub shown_call : Event → Result Answer Refusal → Option Call
shown_call event (Ok answer) = accepted_call event answer
shown_call (event.Commit txn) (Err (CommitUnsure lsn)) = Some (CommitCall txn)
shown_call event (Err why) = None

-- the calls of these events that were accepted, in order
abbrev pub accepted : List Event → List (Result Answer Refusal) → List Call
accepted [] replies = []
accepted (event ∷ events) [] = []
accepted (event ∷ events) (reply ∷ replies) =
    option_to_list (shown_call event reply) ++ accepted events replies
