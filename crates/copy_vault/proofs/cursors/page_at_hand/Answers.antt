use Rattle.std.proofs.Common.{◌≡◌, ◌+◌, ◌-◌, [], drop, sym, subst, ◌∙◌, arith}
use Rattle.copy_vault.specs.Chain.{takings}
use Rattle.copy_vault.proofs.ChainSteps.{none_behind, none_found, page_found, page_not_here}
use Rattle.copy_vault.proofs.cursors.page_at_hand.Goals as goal

pub loop-later-init : goal.loop-later-init
loop-later-init c = record {
  within = omega arith;
  none = λ copies hands. none_behind c.args.cursors.now copies c.args.number hands;
}

pub returns-in-Some : goal.returns-in-Some
returns-in-Some c = λ copies hands.
    let k = c.loop-later.later - 1 in
    let some = c.loop-later-test.true in
    let within = c.loop-later.invariant.within in
    let next : c.loop-later.later ≡ k + 1 = omega arith in
    c.copy.ensures
    ∙ page_found c.args.cursors.now copies k c.args.number c.index-cursors-later.result c.in-Some.page.now hands
    (omega arith) (sym c.index-cursors-later.is) c.in-Some.ensures
    (subst (λ n. takings (drop n copies) c.args.number ≡ []) next (c.loop-later.invariant.none copies hands))

pub loop-later-preserved : goal.loop-later-preserved
loop-later-preserved c =
    let k = c.loop-later.later - 1 in
    let some = c.loop-later-test.true in
    let within = c.loop-later.invariant.within in
    let next : c.loop-later.later ≡ k + 1 = omega arith in
    record {
      within = omega arith;
      none = λ copies hands.
          page_not_here c.args.cursors.now copies k c.args.number c.index-cursors-later.result hands (omega arith)
          (sym c.index-cursors-later.is) c.in_default.ensures
          (subst (λ n. takings (drop n copies) c.args.number ≡ []) next (c.loop-later.invariant.none copies hands));
    }

pub returns : goal.returns
returns c = λ copies hands.
    let past = c.loop-later-test.false in
    let start : c.loop-later.later ≡ 0 = omega arith in
    c.formatted.ensures
    ∙ none_found copies c.args.number
    (subst (λ n. takings (drop n copies) c.args.number ≡ []) start (c.loop-later.invariant.none copies hands))
