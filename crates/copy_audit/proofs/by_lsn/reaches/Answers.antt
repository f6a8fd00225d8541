use Rattle.std.proofs.Common.{◌≡◌, ◌∙◌, ◌+◌, length, get_or, map, sym, ap, subst, arith, rules}
use Rattle.std.specs.Prelude.{None, Some}
use Rattle.std.proofs.lemmas.List.{get_or_default, length-map, length-set}
use Rattle.copy_audit.specs.declared.by_lsn.Due.{Due}
use Rattle.copy_audit.specs.Trace.{IsTraced}
use Rattle.copy_audit.proofs.ByLsn.{AreLooked, all_looked, looked_next, looked_past, no_place, place_at}
use Rattle.copy_audit.proofs.by_lsn.reaches.Goals as goal
use Rattle.copy_audit.proofs.by_lsn.reaches.Goals.{in-Some, in_default}

pub bounds-row-member : goal.bounds-row-member
bounds-row-member c =
    (place_at c.args.row.now (length c.args.row.now) c.in_ok-due.due.items c.loop-i.i c.index.result.now c.in_ok-due.ensures
    (omega (arith, c.loop-i-test.true, c.loop-i.auto.i-end)) c.index.ensures).within

pub offset_bounds-row-member : goal.offset_bounds-row-member
offset_bounds-row-member c = let below = bounds-row-member c in search rules

pub index_mut-requires : goal.index_mut-requires
index_mut-requires c =
    let at = place_at c.args.row.now (length c.args.row.now) c.in_ok-due.due.items c.loop-i.i c.index.result.now
    c.in_ok-due.ensures (omega (arith, c.loop-i-test.true, c.loop-i.auto.i-end)) c.index.ensures in
    omega (arith, at.within, c.loop-i.invariant.count, c.loop-i.seen.ok.0)

pub loop-i-preserved : goal.loop-i-preserved
loop-i-preserved c =
    let number = c.args.number in
    let row = c.args.row.now in
    let i = c.loop-i.i in
    let places = map (λ (it : Due). it.member) c.in_ok-due.due.items in
    let m = c.index.result.now.member in
    let at = place_at row (length row) c.in_ok-due.due.items i c.index.result.now c.in_ok-due.ensures
    (omega (arith, c.loop-i-test.true, c.loop-i.auto.i-end)) c.index.ensures in
    let place = c.index-row-member.result in
    let here : get_or row m None ≡ place = get_or_default row m None place at.within ∙ sym c.index-row-member.is in
    elim c.match-row-member.branch [
      | in-Some w ↦ record {
        count = ap (λ s. length s.items) w.seen-is ∙ length-set c.loop-i.seen.items m (Some w.look.result)
            ∙ c.loop-i.invariant.count;
        traced = λ rs of. subst (IsTraced rs number) (sym w.trace-is)
            (w.look.ensures.traced rs of (c.loop-i.invariant.traced rs of));
        looked = λ rs of. subst (λ s. AreLooked rs number row places (i + 1) s.items) (sym w.seen-is)
            (looked_next rs number row places i m c.loop-i.seen.items w.in-Some.page w.look.result
            (c.loop-i.invariant.looked rs of) at.is at.within (here ∙ w.in-Some.is)
            (w.look.ensures.reach rs of (c.loop-i.invariant.traced rs of)));
      }
      | in_default w ↦ record {
        count = ap (λ s. length s.items) w.seen-is ∙ c.loop-i.invariant.count;
        traced = λ rs of. subst (IsTraced rs number) (sym w.trace-is) (c.loop-i.invariant.traced rs of);
        looked = λ rs of. subst (λ s. AreLooked rs number row places (i + 1) s.items) (sym w.seen-is)
            (looked_past rs number row places i m c.loop-i.seen.items (c.loop-i.invariant.looked rs of) at.is
            (here ∙ no_place place w.in_default.not-Some));
      }
    ]

pub returns-clause-each : goal.returns-clause-each
returns-clause-each c = λ rs of.
    all_looked rs c.args.number c.args.row.now (map (λ (it : Due). it.member) c.in_ok-due.due.items) c.loop-i.i
    c.loop-i.seen.items (c.loop-i.invariant.looked rs of) c.in_ok-due.ensures
    (omega (
      arith,
      length-map c.in_ok-due.due.items (λ (it : Due). it.member),
      c.loop-i-test.false,
      c.loop-i.auto.i-end,
      c.len-i-end.ensures,
    ))
