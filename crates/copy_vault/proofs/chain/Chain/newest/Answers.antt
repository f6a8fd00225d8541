use Rattle.std.proofs.Common.{◌≡◌, ◌+◌, ◌-◌, List, [], drop, sym, ap, subst, ◌∙◌, arith}
use Rattle.page_decisions.specs.Decisions.{decision_at, page_of}
use Rattle.copy_vault.specs.Copy.{CopyView}
use Rattle.copy_vault.specs.Chain.{last_one, lent, newest, takings}
use Rattle.copy_vault.proofs.Chains.{at_ref, newest_at, none_later}
use Rattle.copy_vault.proofs.chain.Chain.newest.Goals as goal

pub returns-in-Some-clause-newest : goal.returns-in-Some-clause-newest
returns-in-Some-clause-newest c =
    let refs = c.self.inside.members.items in
    let copy = c.index.result.now in
    let k = c.loop-later.later - 1 in
    let number = c.args.number in
    let some = c.loop-later-test.true in
    let within = c.loop-later.invariant.within in
    let here = at_ref refs k copy c.index.ensures in
    let next : c.loop-later.later ≡ k + 1 = omega arith in
    sym (newest_at (lent refs) k number copy.now c.in-Some.page.now (omega arith)
    (subst (λ n. takings (drop n (lent refs)) number ≡ []) next c.loop-later.invariant.none)
    (ap (λ (m : CopyView). page_of (decision_at m.pages number)) here ∙ sym c.in-Some.ensures.found))
    ∙ ap (λ (ms : List CopyView). newest ms number) c.self.view_is

pub loop-later-preserved : goal.loop-later-preserved
loop-later-preserved c =
    let refs = c.self.inside.members.items in
    let copy = c.index.result.now in
    let k = c.loop-later.later - 1 in
    let number = c.args.number in
    let some = c.loop-later-test.true in
    let within = c.loop-later.invariant.within in
    let here = at_ref refs k copy c.index.ensures in
    let next : c.loop-later.later ≡ k + 1 = omega arith in
    record {
      within = omega arith;
      none = none_later (lent refs) k number copy.now (omega arith)
          (ap (λ (m : CopyView). page_of (decision_at m.pages number)) here ∙ sym c.in_default.ensures.found)
          (subst (λ n. takings (drop n (lent refs)) number ≡ []) next c.loop-later.invariant.none);
    }

pub returns-clause-newest : goal.returns-clause-newest
returns-clause-newest c =
    let refs = c.self.inside.members.items in
    let number = c.args.number in
    let past = c.loop-later-test.false in
    let start : c.loop-later.later ≡ 0 = omega arith in
    sym (ap last_one (subst (λ n. takings (drop n (lent refs)) number ≡ []) start c.loop-later.invariant.none))
    ∙ ap (λ (ms : List CopyView). newest ms number) c.self.view_is
