use Rattle.log_rules.proofs.Checks.{goes_with_checkpoint, may_follow, may_note, names_number}
use Rattle.log_rules.proofs.laws.tables_say_what_may_follow.Goals as goal

pub returns : goal.returns
returns c = λ rs r. (
  λ may. (may_note rs r may, names_number rs r may, goes_with_checkpoint rs r may),
  λ all. may_follow
      rs r all.0 all.1 all.2,
)
