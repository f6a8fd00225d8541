use Rattle.std.proofs.Common.{◌≡◌, ◌-◌, ◌++◌, [], ◌∷◌, length, map, refl, sym, ap, subst, ◌∙◌, arith}
use Rattle.std.specs.List.{range_with_len}
use Rattle.page_core.specs.Page.{formatted}
use Rattle.page_core.specs.Volume.{AreNumbered, grown_to}
use Rattle.page_core.proofs.Volumes.{grown_to-has, grown_to_more, numbered-grown_to}
use Rattle.page_core.proofs.volume.grow_reserved.Goals as goal

pub loop-number-init : goal.loop-number-init
loop-number-init c =
    let long = c.args.pages.now.ok.0 in
    let first = c.len-number.ensures in
    record {
      items = sym (grown_to-has c.len-number.result c.args.pages.now.items (omega arith));
      len = omega arith;
      room = refl;
      from = omega arith;
      within = omega arith;
    }

pub push_reserved-requires : goal.push_reserved-requires
push_reserved-requires c =
    let on = c.loop-number.invariant in
    omega (arith, on.len, on.room, c.requires.room, c.loop-number-test.true)

pub loop-number-preserved : goal.loop-number-preserved
loop-number-preserved c =
    let on = c.loop-number.invariant in
    let below = c.loop-number-test.true in
    let pushed = c.push_reserved.ensures in
    record {
      items = pushed.items
          ∙ ap (λ pages. pages ++ c.formatted.result ∷ []) on.items
          ∙ ap (λ page. grown_to c.loop-number.number c.args.pages.now.items ++ page ∷ []) c.formatted.ensures
          ∙ sym (grown_to_more c.loop-number.number c.args.pages.now.items on.from);
      len = omega (arith, pushed.len, on.len);
      room = pushed.capacity ∙ on.room;
      from = omega (arith, on.from);
      within = omega (arith, on.from, on.within, below);
    }

pub returns-clause-grown : goal.returns-clause-grown
returns-clause-grown c =
    let on = c.loop-number.invariant in
    let past = c.loop-number-test.false in
    let same : c.loop-number.number - length c.args.pages.now.items ≡ c.args.count - length c.args.pages.now.items =
    omega (arith, on.from, on.within, past) in
    on.items
    ∙ ap (λ k. c.args.pages.now.items ++ map formatted (range_with_len (length c.args.pages.now.items) k)) same

pub returns-clause-numbered : goal.returns-clause-numbered
returns-clause-numbered c = λ numbered.
    let on = c.loop-number.invariant in
    subst AreNumbered (sym on.items) (numbered-grown_to c.loop-number.number c.args.pages.now.items numbered)
