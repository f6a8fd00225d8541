use Rattle.std.proofs.Common.{◌≡◌, ◌∙◌, ◌+◌, ◌<◌, length, get_or, ap, sym, subst}
use Rattle.log_store.specs.PageHistory.{AreHistories, Histories}
use Rattle.log_store.proofs.Histories.{histories_with, histories_without}
use Rattle.log_store.proofs.page_index.PageIndex.note_next.Goals as goal
use Rattle.log_store.proofs.page_index.PageIndex.note_next.Goals.{in-Some+in_ok-reach+in_ok-note, in_default}

pub returns-clause-histories : goal.returns-clause-histories
returns-clause-histories c =
    let rs = c.args.records.now in
    let r = c.index-records-self.result in
    let old = c.args.self.now in
    let seen : c.self.inside.seen ≡ old.seen = ap (λ (v : Histories). v.seen) c.self.view_is in
    let read : r ≡ get_or rs old.seen r = c.index-records-self.is ∙ ap (λ n. get_or rs n r) seen in
    subst (λ (v : Histories). AreHistories rs (record v { seen = v.seen + 1 })) (sym c.self-2.view_is)
    (elim c.match-place_of.branch [
      | in-Some+in_ok-reach+in_ok-note w ↦
          let place = w.in-Some.place in
          let it : Histories = record { seen = w.self-in-Some.inside.seen; pages = w.self-in-Some.inside.pages.items } in
          let same : it.seen ≡ old.seen =
          ap (λ (v : Histories). v.seen) w.self-in-Some.view_is ∙ w.reach.ensures.seen in
          let new = w.note.new.self in
          let within : place < length it.pages =
          subst (λ (v : Histories). place < length v.pages) (sym w.self-in-Some.view_is) w.in_ok-reach.ensures.reached in
          subst (λ (v : Histories). AreHistories rs (record v { seen = v.seen + 1 })) (sym w.self-is)
          (histories_with rs it r place w.index_mut.result.now new
          (subst (λ n. n < length rs) (sym same) c.requires.next)
          (read ∙ ap (λ n. get_or rs n r) (sym same))
          (sym w.in-Some.is ∙ c.place_of.ensures)
          within
          w.index_mut.ensures.value
          w.in_ok-note.ensures.rebuilt
          w.in_ok-note.ensures.later
          (subst (AreHistories rs) (sym w.self-in-Some.view_is) w.in_ok-reach.ensures.histories))
      | in_default w ↦
          subst (λ (v : Histories). AreHistories rs (record v { seen = v.seen + 1 })) (sym w.self-is)
          (histories_without rs old r c.requires.next read (sym w.in_default.is ∙ c.place_of.ensures) c.requires.histories)
    ])
