use Rattle.std.proofs.Common.{◌∙◌, length, sym, ap}
use Rattle.page_decisions.specs.Slots.{values}
use Rattle.page_decisions.proofs.InOrder.{length_of}
use Rattle.page_decisions.proofs.rising.RisingPages.count.Goals as goal

pub returns : goal.returns
returns c = sym (length_of (values c.self.inside.places.items) c.self.inside.count) ∙ ap length c.self.view_is
