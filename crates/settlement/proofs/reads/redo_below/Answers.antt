use Rattle.std.proofs.Common.{◌≡◌, ◌<◌, ◌∙◌, ap, sym, subst, arith, length, take, map}
use Rattle.page_core.specs.Volume.{AreNumbered}
use Rattle.log_records.specs.declared.record.Record.{Record}
use Rattle.log_records.specs.Image.{redo_all, with_record}
use Rattle.log_records.specs.Log.{IsWithin}
use Rattle.log_records.proofs.Public.{length-redo_all, numbered-redo_all}
use Rattle.settlement.proofs.Below.{redone_more, volume_within}
use Rattle.settlement.proofs.reads.redo_below.Goals as goal

pub redo_on_its_page-requires-clause-within : goal.redo_on_its_page-requires-clause-within
redo_on_its_page-requires-clause-within c =
    let rs = c.args.records.now in
    let i = c.loop-i.i in
    let n = length c.args.pages.now in
    let x = c.index-records-i.result in
    let long : length c.loop-i.pages ≡ n = ap length c.loop-i.invariant ∙ length-redo_all (take i rs) n in
    let inside : i < length rs = let lt = c.loop-i-test.true in let m = c.min-count.ensures in omega arith in
    subst (λ m. IsWithin m x) (sym long)
    (subst (IsWithin n) (sym c.index-records-i.is) (volume_within n rs c.requires.log i x inside))

pub redo_on_its_page-requires-clause-numbered : goal.redo_on_its_page-requires-clause-numbered
redo_on_its_page-requires-clause-numbered c =
    subst AreNumbered (sym c.loop-i.invariant)
    (numbered-redo_all (take c.loop-i.i c.args.records.now) (length c.args.pages.now))

pub loop-i-preserved : goal.loop-i-preserved
loop-i-preserved c =
    let rs = c.args.records.now in
    let i = c.loop-i.i in
    let n = length c.args.pages.now in
    let x = c.index-records-i.result in
    c.redo_on_its_page.ensures
    ∙ ap (map (λ page. with_record page x)) c.loop-i.invariant
    ∙ ap (λ (r : Record). map (λ page. with_record page r) (redo_all (take i rs) n)) c.index-records-i.is
    ∙ redone_more rs i n x (let lt = c.loop-i-test.true in let m = c.min-count.ensures in omega arith)
