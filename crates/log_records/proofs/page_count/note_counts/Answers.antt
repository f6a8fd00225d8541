use Rattle.std.proofs.Common.{◌≡◌, ◌<◌, ◌∙◌, ◌++◌, [], ◌∷◌, None, Some, ap, sym, refl, arith, get_or, length, take}
use Rattle.std.specs.List.{filter_map}
use Rattle.std.proofs.lemmas.List.{append_assoc}
use Rattle.page_core.specs.PageCounts.{PageCounts}
use Rattle.page_core.specs.declared.page_counts.GivenCount.{GivenCount}
use Rattle.log_records.specs.PageCount.{given_by, given_count}
use Rattle.log_records.specs.Record.{own_lsn}
use Rattle.log_records.proofs.PageCounts.{given_next-none, given_next-some}
use Rattle.log_records.proofs.page_count.note_counts.Goals as goal
use Rattle.log_records.proofs.page_count.note_counts.Goals.{in-Some+in_ok-note, in_default}

pub loop-record-preserved : goal.loop-record-preserved
loop-record-preserved c =
    let rs = c.args.records.now in
    let i = c.loop-record.record-index in
    let x = c.record-item.result in
    let lt : i < length rs = (let less = c.loop-record-test.true in omega arith) in
    let first = c.args.counts.now.first in
    let given = c.args.counts.now.given in
    let taken = filter_map given_by (take i rs) in
    elim c.match-given_count.branch [
      | in-Some+in_ok-note w ↦
          let n = w.in-Some.pages in
          let some : given_count (get_or rs i x) ≡ Some n =
          ap given_count (sym c.record-item.is) ∙ sym c.given_count.ensures ∙ w.in-Some.is in
          let one : GivenCount = record { lsn = w.lsn.result; pages = n } in
          let lsn : w.lsn.result ≡ own_lsn (get_or rs i x) = w.lsn.ensures ∙ ap own_lsn c.record-item.is in
          w.counts-is ∙ w.in_ok-note.ensures.ok
          ∙ ap (λ (it : PageCounts). (let new : PageCounts = record { first = it.first; given = it.given ++ one ∷ [] } in new))
          c.loop-record.invariant
          ∙ ap (λ gs. (let new : PageCounts = record { first = first; given = gs } in new))
          (append_assoc given taken (one ∷ [])
          ∙ ap (λ (g : GivenCount). given ++ (taken ++ g ∷ []))
          (let same : one ≡ (record { lsn = own_lsn (get_or rs i x); pages = n }) = rw lsn refl in same)
          ∙ ap (λ gs. given ++ gs) (sym (given_next-some rs i x n lt some)))
      | in_default w ↦
          let none : given_count (get_or rs i x) ≡ None =
          ap given_count (sym c.record-item.is) ∙ sym c.given_count.ensures ∙ w.in_default.is in
          w.counts-is ∙ c.loop-record.invariant
          ∙ ap (λ gs. (let new : PageCounts = record { first = first; given = given ++ gs } in new))
          (sym (given_next-none rs i x lt none))
    ]
