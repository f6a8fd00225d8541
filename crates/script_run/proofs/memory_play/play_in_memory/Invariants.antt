use Rattle.std.proofs.Common.{◌≡◌, ◌+◌, ◌*◌, List, length, take}
use Rattle.std.specs.Prelude.{All, Result}
use Rattle.std.specs.String.{string_bytes}
use Rattle.page_core.specs.declared.numbers.TheConstants.{LSN_STEP}
use Rattle.engine_calls.specs.declared.event.Answer.{Answer}
use Rattle.engine_calls.specs.declared.refusal.Refusal.{Refusal}
use Rattle.engine_rules.specs.EngineState.{new_state}
use Rattle.engine_rules.specs.Run.{Run}
use Rattle.engine_rules.specs.Step.{IsByDevice, IsByStore, IsFaultReply}
use Rattle.script_run.specs.ReplyLines.{reply_lines}
use Rattle.script_run.proofs.memory_play.play_in_memory.Given as goal

abbrev pub invariant-loop-event : goal.invariant-loop-event
invariant-loop-event l = (replies : List (Result Answer Refusal)) × record {
  text : string_bytes l.text ≡ reply_lines replies;
  run : Run (new_state l.fn.setup.pages l.fn.setup.frames) (take l.event-index l.events) replies l.engine.state;
  device : All (λ reply. ¬ IsFaultReply IsByDevice reply) replies;
  store : All (λ reply. ¬ IsFaultReply IsByStore reply) replies;
  room : l.engine.device.room ≡ LSN_STEP * (length l.events + 1);
}
