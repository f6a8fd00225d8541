use Rattle.std.specs.Prelude.{◌≡◌, ◌+◌, slice_range}
use Rattle.log_records.specs.Log.{Log}
use Rattle.log_store.specs.BrokenRule.{IsRuleAt}
use Rattle.log_store.specs.Scan.{IsReadTo}
use Rattle.std.proofs.Common.{subst}
use Rattle.log_store.proofs.BrokenRules.{each_input, rule_is}
use Rattle.log_store.proofs.rule_at.broken_rule_at.Goals as goal

pub returns-clause-rule : goal.returns-clause-rule
returns-clause-rule g c =
    let it = c.in_ok-scan.field-0 in
    let holds : Unit {0} → Log → Type 0 = λ sink log. Unit {0} in
    each_input (g.R.Read.remaining c.args.log.now)
    (λ input. c.args.bytes.now ≡ slice_range input c.args.at (c.args.at + 64)
    → IsRuleAt input c.args.at c.rule_behind.result)
    (λ input known read. rule_is holds it.scan.sink it.scan.history it.fault input c.args.at c.args.bytes.now
    c.rule_behind.result
    (subst (IsReadTo holds it.scan.sink it.scan.history it.fault) known c.in_ok-scan.ensures.found)
    read c.rule_behind.ensures.some c.rule_behind.ensures.none)
