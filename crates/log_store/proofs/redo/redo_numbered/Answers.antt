use Rattle.std.proofs.Common.{◌≡◌, ◌∙◌, ◌≤◌, List, length, get_or, take, ap, sym, refl}
use Rattle.std.specs.Prelude.{Some, None, slice_get}
use Rattle.std.specs.List.{filter}
use Rattle.std.proofs.lemmas.Bool.{ltb-false, ltb-true}
use Rattle.std.proofs.lemmas.Option.{slice_get_past, slice_get_read}
use Rattle.log_records.specs.declared.record.Record.{Record}
use Rattle.log_records.specs.Image.{image_from}
use Rattle.log_store.specs.PageHistory.{is_above, records_at}
use Rattle.log_store.proofs.Numbered.{above_more, none_more, some_more}
use Rattle.log_store.proofs.redo.redo_numbered.Goals as goal
use Rattle.log_store.proofs.redo.redo_numbered.Goals.{in-Some, in_default}

pub loop-number-preserved : goal.loop-number-preserved
loop-number-preserved c =
    let rs = c.args.records.now in
    let numbers = c.args.numbers.now in
    let i = c.loop-number.number-index in
    let n = get_or numbers i 0 in
    let page = c.args.page.now in
    elim c.match-get.branch [
      | in-Some w ↦
          let r = w.in-Some.next.now in
          let found = w.in-Some.ensures.lookup in
          let at : slice_get rs n ≡ Some r =
          slice_get_read rs (length rs) n r refl (ltb-true n (length rs) (sym found.0)) found.1 in
          above_more page c.loop-number.page c.match-get.page page.lsn (records_at rs (take i numbers)) _ r
          (some_more rs numbers i n r c.loop-number-test.true refl at) c.loop-number.invariant
          (w.page-is ∙ w.redo_record.ensures)
      | in_default w ↦
          let past : length rs ≤ n = ltb-false n (length rs) (sym w.in_default.ensures.lookup.0) in
          let none : slice_get rs n ≡ None = slice_get_past rs n past in
          w.page-is ∙ c.loop-number.invariant
          ∙ sym (ap (λ (xs : List Record). image_from page (filter (is_above page.lsn) xs))
          (none_more rs numbers i n c.loop-number-test.true refl none))
    ]
