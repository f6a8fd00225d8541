use Rattle.std.proofs.Common.{◌∙◌, ◌≤◌, ◌<◌, length, ap, sym, arith}
use Rattle.std.specs.Prelude.{is_some, position}
use Rattle.std.specs.List.{list_any}
use Rattle.buffer_pool.specs.Frames.{FramesView}
use Rattle.buffer_pool.specs.Marks.{has_clean}
use Rattle.buffer_pool.specs.Pool.{is_clean_in}
use Rattle.buffer_pool.proofs.Sought.{found_at, found_none}
use Rattle.buffer_pool.proofs.Holes.{any_clean, any_found}
use Rattle.buffer_pool.proofs.frames.Frames.first_clean.Goals as goal

pub returns-then-has_clean_at-clause-place : goal.returns-then-has_clean_at-clause-place
returns-then-has_clean_at-clause-place c =
    let slots = c.args.self.now.slots in
    let there : c.loop-place.place < length slots =
    omega (
      arith,
      c.len.ensures,
      c.loop-place-test.true,
      ap (λ (v : FramesView). length v.slots) c.self.view_is,
    ) in
    sym (found_at (is_clean_in c.args.states.now) slots c.loop-place.place c.has_clean_at.result there
    c.has_clean_at.ensures c.if-has_clean_at.true c.loop-place.invariant)

pub returns-then-has_clean_at-clause-found : goal.returns-then-has_clean_at-clause-found
returns-then-has_clean_at-clause-found c =
    let clean = is_clean_in c.args.states.now in
    ap is_some (returns-then-has_clean_at-clause-place c)
    ∙ ap (λ (v : FramesView). is_some (position (has_clean clean) v.slots)) (sym c.self.view_is)
    ∙ any_found (has_clean clean) c.self.inside.slots.list
    ∙ any_clean clean c.self.inside.slots.list
    ∙ ap (λ (v : FramesView). list_any (λ page. clean page.number) v.pages) c.self.view_is

pub returns-clause-place : goal.returns-clause-place
returns-clause-place c =
    let slots = c.args.self.now.slots in
    let all : length slots ≤ c.loop-place.place =
    omega (
      arith,
      c.len.ensures,
      c.loop-place-test.false,
      ap (λ (v : FramesView). length v.slots) c.self.view_is,
    ) in
    sym (found_none (has_clean (is_clean_in c.args.states.now)) slots
    (λ k d lt. c.loop-place.invariant k d (omega (arith, lt, all)) lt))

pub returns-clause-found : goal.returns-clause-found
returns-clause-found c =
    let clean = is_clean_in c.args.states.now in
    ap is_some (returns-clause-place c)
    ∙ ap (λ (v : FramesView). is_some (position (has_clean clean) v.slots)) (sym c.self.view_is)
    ∙ any_found (has_clean clean) c.self.inside.slots.list
    ∙ any_clean clean c.self.inside.slots.list
    ∙ ap (λ (v : FramesView). list_any (λ page. clean page.number) v.pages) c.self.view_is
