use Rattle.std.proofs.Common.{ap, length, arith, ◌∙◌}
use Rattle.std.proofs.lemmas.List.{same_lists}
use Rattle.std.proofs.lemmas.List.FromFn.{length-map-range_with_len}
use Rattle.page_core.specs.declared.page.Page.{Page}
use Rattle.page_core.specs.Page.{formatted}
use Rattle.engine_restart.proofs.store.store_of.Goals as goal

pub loop-number-init : goal.loop-number-init
loop-number-init c = record {
  long = ap (length {A = Page}) c.in_ok-store.ensures ∙ length-map-range_with_len formatted 0 (length c.args.pages.now);
  stored = λ k d lt. absurd (omega (arith, lt));
}

pub returns : goal.returns
returns c =
    let is = c.loop-number.invariant in
    same_lists c.loop-number.store c.args.pages.now is.long
    (λ k d lt. is.stored k d (omega (arith, lt, is.long, c.loop-number-test.false)))
