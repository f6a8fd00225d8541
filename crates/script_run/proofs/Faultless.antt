-- Replies that tell of no fault.
use Rattle.std.proofs.Common.{◌≡◌, ℕ, ◌++◌, List, [], ◌∷◌, ap, ◌∙◌, append-nil}
use Rattle.std.specs.Prelude.{All, Result}
use Rattle.std.proofs.lemmas.Grind.{flat_map-append}
use Rattle.engine_calls.specs.declared.event.Answer.{Answer}
use Rattle.engine_calls.specs.declared.refusal.Refusal.{Refusal}
use Rattle.engine_rules.specs.Step.{IsByDevice, IsByStore, IsFaultReply}
use Rattle.event_script.specs.Reply.{line_of_reply}
use Rattle.script_run.specs.PageLines.{ended}
use Rattle.script_run.specs.ReplyLines.{reply_lines}
use Rattle.script_run.specs.Run.{IsFaultless}

-- none is of the device, and not any is of the store
pub faultless : (replies : List (Result Answer Refusal)) → All (λ reply. ¬ IsFaultReply IsByDevice reply) replies
    → All (λ reply. ¬ IsFaultReply IsByStore reply) replies → All IsFaultless replies
faultless replies device store = λ k d lt. record { device = device k d lt; store = store k d lt }

-- and the lines of one reply more
pub lines_push : (replies : List (Result Answer Refusal)) (reply : Result Answer Refusal)
    → reply_lines (replies ++ reply ∷ []) ≡ reply_lines replies ++ ended (line_of_reply reply)
lines_push replies reply =
    flat_map-append (λ reply. ended (line_of_reply reply)) replies (reply ∷ [])
    ∙ ap (λ (xs : List ℕ). reply_lines replies ++ xs) (append-nil (ended (line_of_reply reply)))
