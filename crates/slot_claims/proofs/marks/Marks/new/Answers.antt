use Rattle.std.proofs.Common.{◌∙◌, ap}
use Rattle.slot_claims.specs.Marks.{holder_at}
use Rattle.slot_claims.proofs.SlotMarks.{slot_holder, no_slot}
use Rattle.slot_claims.proofs.marks.Marks.new.Goals as goal

pub returns : goal.returns
unfolding holder_at
returns c = λ page slot. ap (λ ms. slot_holder ms page slot) c.new.ensures.items ∙ no_slot page slot
