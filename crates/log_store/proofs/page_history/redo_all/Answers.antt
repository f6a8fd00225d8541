use Rattle.std.proofs.Common.{◌≡◌, ◌∙◌, ◌≤◌, length, get_or, take, ap, sym, refl}
use Rattle.std.specs.Prelude.{Some, None, slice_get}
use Rattle.std.proofs.lemmas.Bool.{ltb-false, ltb-true}
use Rattle.std.proofs.lemmas.Option.{slice_get_past, slice_get_read}
use Rattle.log_records.specs.Image.{image_from}
use Rattle.log_store.specs.PageHistory.{records_at}
use Rattle.log_store.proofs.Numbered.{all_more, none_more, some_more}
use Rattle.log_store.proofs.page_history.redo_all.Goals as goal
use Rattle.log_store.proofs.page_history.redo_all.Goals.{in-Some, in_default}

pub loop-number-preserved : goal.loop-number-preserved
loop-number-preserved c =
    let rs = c.args.records.now in
    let numbers = c.args.numbers.now in
    let i = c.loop-number.number-index in
    let n = get_or numbers i 0 in
    elim c.match-get.branch [
      | in-Some w ↦
          let r = w.in-Some.next.now in
          let found = w.in-Some.ensures.lookup in
          let at : slice_get rs n ≡ Some r =
          slice_get_read rs (length rs) n r refl (ltb-true n (length rs) (sym found.0)) found.1 in
          all_more c.args.page.now c.loop-number.page c.match-get.page (records_at rs (take i numbers)) _ r
          (some_more rs numbers i n r c.loop-number-test.true refl at) c.loop-number.invariant
          (w.page-is ∙ w.redo_on.ensures)
      | in_default w ↦
          let past : length rs ≤ n = ltb-false n (length rs) (sym w.in_default.ensures.lookup.0) in
          let none : slice_get rs n ≡ None = slice_get_past rs n past in
          w.page-is ∙ c.loop-number.invariant
          ∙ sym (ap (image_from c.args.page.now) (none_more rs numbers i n c.loop-number-test.true refl none))
    ]
