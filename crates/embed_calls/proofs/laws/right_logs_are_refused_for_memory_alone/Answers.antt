use Rattle.embed_calls.proofs.Refused.{for_memory}
use Rattle.embed_calls.proofs.laws.right_logs_are_refused_for_memory_alone.Goals as goal

pub returns : goal.returns
returns c bytes log it right wrong = for_memory bytes log it wrong.why right wrong.told wrong.refused
