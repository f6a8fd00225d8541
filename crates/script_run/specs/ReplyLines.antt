-- What is printed of replies.
use Rattle.std.specs.Prelude.{ℕ, List, Result}
use Rattle.std.specs.List.{flat_map}
use Rattle.engine_calls.specs.declared.event.Answer.{Answer}
use Rattle.engine_calls.specs.declared.refusal.Refusal.{Refusal}
use Rattle.event_script.specs.Reply.{line_of_reply}
use Rattle.script_run.specs.PageLines.{ended}

-- a line for each reply
abbrev pub reply_lines : List (Result Answer Refusal) → List ℕ
reply_lines replies = flat_map (λ reply. ended (line_of_reply reply)) replies
