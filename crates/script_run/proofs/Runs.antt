-- A script that is played, and what stands where its replies are not written.
use Rattle.std.specs.Prelude.{IfSome, Result, Option, Some, None}
use Rattle.std.proofs.Common.{◌≡◌, ℕ, List}
use Rattle.copy_coverage.specs.Retired.{RetiredView}
use Rattle.engine_calls.specs.declared.event.Answer.{Answer}
use Rattle.engine_calls.specs.declared.event.Event.{Event}
use Rattle.engine_calls.specs.declared.refusal.Refusal.{Refusal}
use Rattle.event_script.specs.declared.script.LastRestore.{LastRestore}
use Rattle.event_script.specs.Read.{IsText}
use Rattle.event_script.specs.Script.{said_in}
use Rattle.event_script.specs.Words.{lines_of}
use Rattle.script_run.specs.declared.run_fault.ScriptRunFault.{ScriptRunFault}
use Rattle.script_run.specs.declared.run_fault.ScriptRunFault.TheVariants.{Script, OutOfMemory, WriteFault}
use Rattle.script_run.specs.ReplyLines.{reply_lines}
use Rattle.script_run.specs.Run.{FailedUnread, IsScript, LeavesPart, Plays, RunLeaves}

pub script_of : (input : Option (List ℕ)) (events : List Event) (last : Option LastRestore)
    → IfSome input (λ bytes. said_in (lines_of bytes) ≡ Some (events, last)) → IfSome input IsText
    → IfSome input (IsScript events last)
script_of None events last said text = text
script_of (Some bytes) events last said text = record { text = text; said = said }

pub not_written : (pages frames : ℕ) (input old new : Option (List ℕ)) (replies : List (Result Answer Refusal))
    (left : RetiredView) (last : Option LastRestore) (fault : ScriptRunFault) → Plays pages frames input replies left last
    → LeavesPart (reply_lines replies) old new fault → RunLeaves pages frames input old new fault
not_written pages frames input old new replies left last OutOfMemory plays leaves = leaves
not_written pages frames input old new replies left last (WriteFault done) plays leaves = record {
  replies = replies;
  left = left;
  last = last;
  plays = plays;
  within = leaves.0;
  written = leaves.1;
}
not_written pages frames input old new replies left last (Script fault) plays leaves = absurd leaves

-- a fault of writing is none of reading
pub was_read : (bytes : List ℕ) (old new before after : Option (List ℕ)) (fault : ScriptRunFault)
    → LeavesPart bytes old new fault → FailedUnread before after fault
was_read bytes old new before after OutOfMemory leaves = tt
was_read bytes old new before after (WriteFault done) leaves = tt
was_read bytes old new before after (Script fault) leaves = absurd leaves
