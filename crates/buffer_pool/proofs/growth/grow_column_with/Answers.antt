use Rattle.std.proofs.Common.{◌≡◌, ◌-◌, ◌++◌, [], ◌∷◌, length, replicate, refl, sym, ap, ◌∙◌, arith}
use Rattle.buffer_pool.proofs.Grown.{extended_more, extended_none}
use Rattle.buffer_pool.proofs.growth.grow_column_with.Goals as goal

pub loop-place-init : goal.loop-place-init
loop-place-init g c =
    let long = c.args.column.now.ok.0 in
    let first = c.len-place.ensures in
    record {
      items = sym (extended_none c.args.column.now.items c.len-place.result c.args.value (omega arith));
      len = omega arith;
      room = refl;
      from = omega arith;
      within = omega arith;
    }

pub push_reserved-requires : goal.push_reserved-requires
push_reserved-requires g c =
    let on = c.loop-place.invariant in
    omega (arith, on.len, on.room, c.requires.room, c.loop-place-test.true)

pub loop-place-preserved : goal.loop-place-preserved
loop-place-preserved g c =
    let on = c.loop-place.invariant in
    let below = c.loop-place-test.true in
    let pushed = c.push_reserved.ensures in
    record {
      items = pushed.items
          ∙ ap (λ xs. xs ++ c.args.value ∷ []) on.items
          ∙ sym (extended_more c.args.column.now.items c.loop-place.place c.args.value on.from);
      len = omega (arith, pushed.len, on.len);
      room = pushed.capacity ∙ on.room;
      from = omega (arith, on.from);
      within = omega (arith, on.from, on.within, below);
    }

pub returns-clause-grown : goal.returns-clause-grown
returns-clause-grown g c =
    let on = c.loop-place.invariant in
    let past = c.loop-place-test.false in
    let same : c.loop-place.place - length c.args.column.now.items ≡ c.args.count - length c.args.column.now.items =
    omega (arith, on.from, on.within, past) in
    on.items ∙ ap (λ k. c.args.column.now.items ++ replicate k c.args.value) same
