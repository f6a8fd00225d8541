use Rattle.std.proofs.Common.{◌≡◌, ◌∙◌, ℕ, List, length, map, take, get_or, ap, sym, subst, arith}
use Rattle.std.proofs.lemmas.List.{length-map, take_all}
use Rattle.page_core.specs.Volume.{AreNumbered}
use Rattle.log_records.specs.declared.record.Record.{Record}
use Rattle.log_records.specs.Log.{IsWithin}
use Rattle.page_redo.specs.Redo.{redone_all, redone_by}
use Rattle.page_redo.proofs.Volumes.{each_more, none_yet, numbered_more}
use Rattle.page_redo.proofs.volume.redo_records.Goals as goal

pub loop-record-init : goal.loop-record-init
loop-record-init c = none_yet c.args.pages.now

pub redo_if_above-requires-clause-within : goal.redo_if_above-requires-clause-within
redo_if_above-requires-clause-within c =
    let pages = c.args.pages.now in
    let rs = c.args.records.now in
    let i = c.loop-record.record-index in
    let d = c.record-item.result in
    let long : length c.loop-record.pages ≡ length pages =
    ap length c.loop-record.invariant ∙ length-map pages (λ page. redone_all page (take i rs)) in
    subst (λ (n : ℕ). IsWithin n d) (sym long)
    (subst (IsWithin (length pages)) (sym c.record-item.is) (c.requires.within i d c.loop-record-test.true))

pub redo_if_above-requires-clause-numbered : goal.redo_if_above-requires-clause-numbered
redo_if_above-requires-clause-numbered c =
    subst AreNumbered (sym c.loop-record.invariant)
    (numbered_more c.args.pages.now (take c.loop-record.record-index c.args.records.now) c.requires.numbered)

pub loop-record-preserved : goal.loop-record-preserved
loop-record-preserved c =
    let pages = c.args.pages.now in
    let rs = c.args.records.now in
    let i = c.loop-record.record-index in
    let d = c.record-item.result in
    c.redo_if_above.ensures
    ∙ ap (λ (r : Record). map (λ page. redone_by page r) c.loop-record.pages) c.record-item.is
    ∙ ap (map (λ page. redone_by page (get_or rs i d))) c.loop-record.invariant
    ∙ each_more pages rs i d c.loop-record-test.true

pub returns : goal.returns
returns c =
    let rs = c.args.records.now in
    c.loop-record.invariant
    ∙ ap (λ (xs : List Record). map (λ page. redone_all page xs) c.args.pages.now)
    (take_all c.loop-record.record-index rs (omega (arith, c.loop-record-test.false)))
