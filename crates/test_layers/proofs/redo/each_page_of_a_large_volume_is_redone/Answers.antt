use Rattle.std.proofs.Common.{subst, sym}
use Rattle.page_core.specs.Volume.{AreNumbered}
use Rattle.test_layers.proofs.redo.each_page_of_a_large_volume_is_redone.Goals as goal

pub redo_by_page-requires-clause-numbered : goal.redo_by_page-requires-clause-numbered
redo_by_page-requires-clause-numbered g c =
    λ _. subst AreNumbered (sym c.deref_mut.ensures.value) c.in_ok-pages.ensures.numbered
