use Rattle.std.proofs.Common.{List, length, subst, sym}
use Rattle.page_core.specs.Volume.{AreNumbered}
use Rattle.page_core.specs.declared.page.Page.{Page}
use Rattle.log_records.specs.Log.{IsPageCount, Log, page_count}
use Rattle.database_opening.proofs.Resumed.{are_counted, are_numbered}
use Rattle.database_opening.proofs.restarted.add_copies_and_volume.Goals as goal
use Rattle.database_opening.proofs.restarted.add_copies_and_volume.Goals.{After-pages}

counted : (g : _) (c : After-pages g) → IsPageCount (length c.pages.result.now)
counted g c =
    subst (λ (pages : List Page). IsPageCount (length pages)) (sym c.pages.ensures.pages)
    (are_counted c.take_up.new.restarted c.pages.ensures.kept
    (subst (λ (log : Log). IsPageCount (page_count log)) (sym c.take_up.ensures.log) c.requires.counted))

pub store_of-requires-clause-some : goal.store_of-requires-clause-some
store_of-requires-clause-some g c = (counted g c).least

pub store_of-requires-clause-few : goal.store_of-requires-clause-few
store_of-requires-clause-few g c = (counted g c).most

pub store_of-requires-clause-numbered : goal.store_of-requires-clause-numbered
store_of-requires-clause-numbered g c =
    subst AreNumbered (sym c.pages.ensures.pages) (are_numbered c.take_up.new.restarted c.pages.ensures.kept)
