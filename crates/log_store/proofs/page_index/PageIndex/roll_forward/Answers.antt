use Rattle.std.proofs.Common.{◌≡◌, ◌∙◌, ◌<◌, length, ap, sym, subst}
use Rattle.log_records.specs.Log.{Log}
use Rattle.log_store.specs.PageHistory.{AreHistories, Histories}
use Rattle.log_store.proofs.Histories.{after_rolling, on_ok, rolls}
use Rattle.log_store.proofs.page_index.PageIndex.roll_forward.Goals as goal

pub returns-clause-histories : goal.returns-clause-histories
returns-clause-histories c =
    let log : Log = record { pages = c.requires.log.0; records = c.args.records.now } in
    let it : Histories = record { seen = c.self.inside.seen; pages = c.self.inside.pages.items } in
    let seen : it.seen ≡ length log.records =
    ap (λ (v : Histories). v.seen) c.self.view_is ∙ c.in_ok-reach.ensures.seen ∙ c.in_ok-catch_up.ensures.all in
    let within = subst (λ (v : Histories). c.place-at.result < length v.pages) (sym c.self.view_is)
    c.in_ok-reach.ensures.reached in
    after_rolling log it c.place-at.result c.index_mut.result.now c.roll_forward.new.self c.args.page.now
    c.roll_forward.new.page c.roll_forward.result c.requires.log.1 seen within c.index_mut.ensures.value
    c.place-at.ensures c.requires.past c.roll_forward.ensures.page c.roll_forward.ensures.rebuilt
    c.roll_forward.ensures.later c.roll_forward.ensures.err
    (subst (AreHistories log.records) (sym c.self.view_is) c.in_ok-reach.ensures.histories)

pub returns-clause-image : goal.returns-clause-image
returns-clause-image c =
    let log : Log = record { pages = c.requires.log.0; records = c.args.records.now } in
    let it : Histories = record { seen = c.self.inside.seen; pages = c.self.inside.pages.items } in
    let seen : it.seen ≡ length log.records =
    ap (λ (v : Histories). v.seen) c.self.view_is ∙ c.in_ok-reach.ensures.seen ∙ c.in_ok-catch_up.ensures.all in
    let within = subst (λ (v : Histories). c.place-at.result < length v.pages) (sym c.self.view_is)
    c.in_ok-reach.ensures.reached in
    on_ok c.roll_forward.result _
    (rolls log it c.place-at.result c.index_mut.result.now c.args.page.now c.roll_forward.new.page c.requires.log.1
    seen within c.index_mut.ensures.value c.place-at.ensures c.requires.past c.roll_forward.ensures.page
    (subst (AreHistories log.records) (sym c.self.view_is) c.in_ok-reach.ensures.histories))
