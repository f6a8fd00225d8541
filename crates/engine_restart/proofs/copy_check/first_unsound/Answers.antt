use Rattle.std.proofs.Common.{ℕ, ◌<◌, ◌∷◌, ◌++◌, [], List, get_or, length, ap, sym, below_more, arith, ◌∙◌}
use Rattle.std.proofs.lemmas.List.FromFn.{get_or-map-range_with_len, length-map-range_with_len}
use Rattle.log_records.specs.declared.record.Record.{Record}
use Rattle.log_records.specs.Log.{page_count}
use Rattle.page_redo.specs.PageRecords.{numbers_on}
use Rattle.copy_vault.specs.Chain.{content}
use Rattle.engine_restart.specs.Added.{IsSoundAt}
use Rattle.engine_restart.specs.Chained.{members}
use Rattle.engine_restart.proofs.Checking.{same_cover}
use Rattle.engine_restart.proofs.copy_check.first_unsound.Goals as goal

pub of-numbers-requires : goal.of-numbers-requires
of-numbers-requires c =
    let rs = c.args.log.now.records in
    let n = page_count c.args.log.now in
    let long = ap (length {A = List ℕ}) c.requires.changes ∙ length-map-range_with_len (numbers_on rs 0) 0 n in
    omega (arith, long, c.loop-number-test.true, c.page_count-number-end.ensures.count)

pub is_sound-requires-clause-numbers : goal.is_sound-requires-clause-numbers
is_sound-requires-clause-numbers c =
    let rs = c.args.log.now.records in
    let p = c.loop-number.number in
    let n = page_count c.args.log.now in
    let lt : p < n = omega (arith, c.loop-number-test.true, c.page_count-number-end.ensures.count) in
    c.of-numbers.ensures ∙ ap (λ (xs : List (List ℕ)). get_or xs p []) c.requires.changes
    ∙ get_or-map-range_with_len (numbers_on rs 0) 0 n p p [] lt (omega arith)
    ∙ ap (λ (xs : List Record). numbers_on xs 0 p) (sym c.records.ensures.records)
    ∙ ap (numbers_on c.records.result.now 0) (sym c.content_of-page.ensures.numbered)

pub loop-number-preserved : goal.loop-number-preserved
loop-number-preserved c =
    let log = c.args.log.now in
    let older = members c.args.older.now in
    let copy = c.args.copy.now in
    let p = c.loop-number.number in
    let page = c.content_of-page.result in
    below_more (IsSoundAt log older copy) p c.loop-number.invariant
    (same_cover c.records.result.now log.records page.number p page (content (older ++ copy ∷ []) p) c.redo.result copy.redo
    c.records.ensures.records c.content_of-page.ensures.numbered c.content_of-page.ensures.content c.redo.ensures
    (c.is_sound.ensures.0 c.if-not-is_sound.false))
