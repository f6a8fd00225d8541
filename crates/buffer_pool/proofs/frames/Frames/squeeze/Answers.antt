use Rattle.std.proofs.Common.{◌∙◌, ◌≤◌, ap, arith, refl, subst}
use Rattle.std.specs.Option.{option_map_or}
use Rattle.buffer_pool.specs.Frames.{FramesView}
use Rattle.buffer_pool.specs.Slots.{pages_in}
use Rattle.buffer_pool.proofs.Holes.{pages_squeezed, roomier}
use Rattle.buffer_pool.proofs.frames.Frames.squeeze.Goals as goal

pub loop-place-init : goal.loop-place-init
loop-place-init c = record {
  slots = refl;
  pages = ap pages_in c.squeeze.ensures.list
      ∙ pages_squeezed (pages_in c.self.inside.slots.list)
      ∙ ap (λ (v : FramesView). v.pages) c.self.view_is;
  room = subst (λ (v : FramesView). v.room ≤ option_map_or (λ frame. c.squeeze.new.self.spare) c.self.inside.free 0)
      c.self.view_is (roomier c.self.inside.free c.squeeze.ensures.spare);
  marked = λ k d lt there passed. let no : ⊥ = omega (arith, lt) in absurd no;
}
