use Rattle.std.proofs.Common.{◌≡◌, ◌∙◌, ◌+◌, ◌<◌, ◌≤◌, ℕ, List, length, get_or, take, sym, refl, ap, subst, arith, inl, inr}
use Rattle.std.specs.Prelude.{Some, None, slice_get}
use Rattle.std.proofs.lemmas.Option.{slice_get_past, slice_get_read}
use Rattle.std.proofs.lemmas.Bool.{cases_lt, ltb-false, ltb-true}
use Rattle.page_core.specs.Page.{formatted}
use Rattle.log_records.specs.Image.{image_from}
use Rattle.log_store.specs.PageHistory.{records_at}
use Rattle.copy_audit.specs.declared.trace.Trace.{Trace}
use Rattle.copy_audit.proofs.Traces.{made_skip, made_step}
use Rattle.copy_audit.proofs.page_audit.redo_listed.Goals as goal
use Rattle.copy_audit.proofs.page_audit.redo_listed.Goals.{in-Some, in_default}

pub loop-trace-preserved : goal.loop-trace-preserved
loop-trace-preserved c =
    let rs = c.args.records.now in
    let numbers = c.args.numbers.now in
    let i = c.loop-trace.trace.done in
    let n = get_or numbers i 0 in
    let inv = c.loop-trace.invariant in
    let more = c.loop-trace-test.true in
    let low = c.if-numbers-trace.true in
    elim c.match-get.branch [
      | in-Some w ↦
          let r = w.in-Some.next.now in
          let found = w.in-Some.ensures.lookup in
          let at : slice_get rs n ≡ Some r =
          slice_get_read rs (length rs) n r refl (ltb-true n (length rs) (sym found.0)) found.1 in
          let done : c.match-get.trace.done ≡ i = ap (λ (t : Trace). t.done) w.trace-is in
          let page : c.match-get.trace.page ≡ w.redo_on.new.page = ap (λ (t : Trace). t.page) w.trace-is in
          record {
            onwards = omega arith;
            within = λ before. omega arith;
            made = λ number before. subst (λ (k : ℕ). c.match-get.trace.page
                ≡ image_from (formatted number) (records_at rs (take (k + 1) numbers))) (sym done)
                (made_step rs numbers (formatted number) c.loop-trace.trace.page c.match-get.trace.page i n r more refl at
                (inv.made number before) (page ∙ w.redo_on.ensures));
            below = λ j from lt. below_step numbers i c.args.count inv.below low done j from lt;
          }
      | in_default w ↦
          let past : length rs ≤ n = ltb-false n (length rs) (sym w.in_default.ensures.lookup.0) in
          let none : slice_get rs n ≡ None = slice_get_past rs n past in
          let done : c.match-get.trace.done ≡ i = ap (λ (t : Trace). t.done) w.trace-is in
          let page : c.match-get.trace.page ≡ c.loop-trace.trace.page = ap (λ (t : Trace). t.page) w.trace-is in
          record {
            onwards = omega arith;
            within = λ before. omega arith;
            made = λ number before. subst (λ (k : ℕ). c.match-get.trace.page
                ≡ image_from (formatted number) (records_at rs (take (k + 1) numbers))) (sym done)
                (page ∙ made_skip rs numbers (formatted number) c.loop-trace.trace.page i n more refl none
                (inv.made number before));
            below = λ j from lt. below_step numbers i c.args.count inv.below low done j from lt;
          }
    ]
  where
    below_step : {start next : ℕ} (numbers : List ℕ) (i count : ℕ)
        → ((j : ℕ) → start ≤ j → j < i → get_or numbers j 0 < count) → get_or numbers i 0 < count → next ≡ i
        → (j : ℕ) → start ≤ j → j < next + 1 → get_or numbers j 0 < count
    below_step numbers i count before here is j from lt = elim (cases_lt j i) [
      | inl less ↦ before j from less
      | inr past ↦
          let same : i ≡ j = omega arith in
          subst (λ (k : ℕ). get_or numbers k 0 < count) same here
    ]
