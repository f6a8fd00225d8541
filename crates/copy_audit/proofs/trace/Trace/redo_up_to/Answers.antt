use Rattle.std.proofs.Common.{◌≡◌, ◌∙◌, ◌<◌, ◌≤◌, ◌/◌, ℕ, length, get_or, take, refl, sym, subst, ap, arith, inl, inr}
use Rattle.std.proofs.lemmas.Bool.{cases_lt, leb-false, leb-true}
use Rattle.std.proofs.lemmas.List.{get_or_default}
use Rattle.page_core.specs.declared.change.Change.TheVariants.{Add}
use Rattle.page_core.specs.declared.page.Page.{Page}
use Rattle.page_core.specs.Page.{formatted, put}
use Rattle.log_records.specs.declared.record.Record.TheVariants.{Begin}
use Rattle.log_records.proofs.Public.{number-image}
use Rattle.page_redo.specs.Placed.{Placed}
use Rattle.page_redo.specs.PageRecords.{numbers_on}
use Rattle.log_store.specs.PageHistory.{records_at}
use Rattle.copy_audit.proofs.OnPage.{change_is, same_length}
use Rattle.copy_audit.proofs.Traces.{made_step}
use Rattle.copy_audit.proofs.trace.Trace.redo_up_to.Goals as goal
use Rattle.copy_audit.proofs.trace.Trace.redo_up_to.Goals.{then-loop-self-test+else-is_among, else-loop-self-test}

pub loop-self-preserved : goal.loop-self-preserved
loop-self-preserved c =
    let cs = c.args.changes.now in
    let i = c.loop-self.self.done in
    let inv = c.loop-self.invariant in
    let more = c.loop-self-test.true in
    let x = c.index-changes-self-in-loop-self.result in
    let y = c.index-changes-self.result in
    let page = c.loop-self.self.page in
    record {
      onwards = omega (arith, inv.onwards);
      within = λ before. omega arith;
      made = λ rs number all of before.
          let ns = numbers_on rs 0 number in
          let it = change_is rs number all i cs x of more in
          let now = inv.made rs number all of before in
          let no : page.number ≡ number =
          ap (λ (q : Page). q.number) now ∙ number-image (records_at rs (take i ns)) number in
          let is : x ≡ get_or cs i x = c.index-changes-self-in-loop-self.is in
          made_step rs ns (formatted number) page c.apply_to.new.page i (get_or ns i 0)
          (get_or rs (get_or ns i 0) (Begin 0 0)) (omega (arith, same_length rs number all cs of)) refl it.there now
          (c.apply_to.ensures ∙ ap (λ (q : Placed). put page q.lsn q.slot q.change) is ∙ it.made page no);
      below = λ j d from lt. elim (cases_lt j i) [
        | inl less ↦ inv.below j d from less
        | inr past ↦
            let same : i ≡ j = omega arith in
            let here : y ≡ get_or cs j d =
            c.index-changes-self.is ∙ get_or_default cs i y d more ∙ ap (λ (k : ℕ). get_or cs k d) same in
            subst (λ (q : Placed). q.lsn / 64 ≤ c.args.count) here
            (leb-true (y.lsn / 64) c.args.count (sym c.is_among.ensures ∙ c.if-is_among.true))
      ];
    }

pub returns-clause-traced : goal.returns-clause-traced
returns-clause-traced c = λ rs number all of was.
    let cs = c.args.changes.now in
    let ns = numbers_on rs 0 number in
    let inv = c.loop-self.invariant in
    let i = c.loop-self.self.done in
    let d : Placed = record { lsn = 0; page = 0; slot = 0; change = Add 0 } in
    let long = same_length rs number all cs of in
    let within : i ≤ length cs = inv.within (omega (arith, was.within, long)) in
    record {
      made = inv.made rs number all of was.made;
      within = omega (arith, within, long);
      below = λ j lt. elim (cases_lt j c.args.self.now.done) [
        | inl less ↦ let low = was.below j less in omega (arith, low, c.requires.onwards)
        | inr past ↦
            let low = inv.below j d past lt in
            let lsn = (change_is rs number all j cs d of (omega (arith, within, lt))).lsn in
            omega (arith, low, lsn)
      ];
      above = λ some. elim c.loop-self-test.branch [
        | then-loop-self-test+else-is_among w ↦
            let y = w.index-changes-self.result in
            let there : i < length cs = w.loop-self-test.true in
            let lsn = (change_is rs number all i cs y of there).lsn in
            let is : y.lsn ≡ (get_or cs i y).lsn = ap (λ (q : Placed). q.lsn) w.index-changes-self.is in
            let over = leb-false (y.lsn / 64) c.args.count (sym w.is_among.ensures ∙ w.if-is_among.false) in
            omega (arith, lsn, is, over)
        | else-loop-self-test w ↦ let past = w.loop-self-test.false in absurd (omega (arith, past, long, some))
      ];
    }
