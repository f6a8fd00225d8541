use Rattle.std.proofs.Common.{◌≡◌, ◌∙◌, ap, false, subst, sym}
use Rattle.std.specs.Prelude.{is_some}
use Rattle.buffer_pool.specs.Frames.{IsSought, is_resident}
use Rattle.buffer_pool.specs.Pool.{is_clean_in}
use Rattle.buffer_pool.specs.Slots.{pages_in}
use Rattle.buffer_pool.proofs.Sought.{noted_absent, noted_cleared, noted_set}
use Rattle.buffer_pool.proofs.frames.Frames.note.Goals as goal

pub returns-then-is_clean-clause-sought : goal.returns-then-is_clean-clause-sought
returns-then-is_clean-clause-sought c = λ clean sought others.
    let it = c.self.inside in
    noted_set c.args.number clean (is_clean_in c.args.states.now) it.slots.list c.in-Some.place it.marks c.set.new.self
    c.in-Some.ensures.place (subst (IsSought clean) (sym c.self.view_is) sought) others c.set.ensures

pub returns-else-is_clean-clause-sought : goal.returns-else-is_clean-clause-sought
returns-else-is_clean-clause-sought c = λ clean sought others.
    let it = c.self.inside in
    noted_cleared c.args.number clean (is_clean_in c.args.states.now) it.slots.list c.in-Some.place it.marks
    c.clear.new.self c.in-Some.ensures.place (sym c.is_clean.ensures ∙ c.if-is_clean.false)
    (subst (IsSought clean) (sym c.self.view_is) sought) others c.clear.ensures

pub returns-in_default-clause-sought : goal.returns-in_default-clause-sought
returns-in_default-clause-sought c = λ clean sought others.
    let it = c.self.inside in
    let now = is_clean_in c.args.states.now in
    let absent : is_resident (pages_in it.slots.list) c.args.number ≡ false =
    sym c.place_of.ensures.found ∙ ap is_some c.in_default.is in
    subst (IsSought now) c.self.view_is
    (noted_absent c.args.number clean now it.slots.list it.marks absent
    (subst (IsSought clean) (sym c.self.view_is) sought) others)
