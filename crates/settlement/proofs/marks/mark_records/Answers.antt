use Rattle.std.proofs.Common.{◌≡◌, ◌+◌, ◌⊎◌, Bool, true, false, inl, inr, sym, ◌∙◌, ap, subst, length, List, take, slice_index_or, slice_set, arith}
use Rattle.std.proofs.lemmas.List.{get_or_default, length-set, take_all}
use Rattle.settlement.specs.Marks.{AreLogged, IsTaken, IsUnlogged}
use Rattle.settlement.specs.Receipt.{IsLogged, is_read}
use Rattle.settlement.specs.declared.receipt.Receipt.{Receipt}
use Rattle.settlement.proofs.Marking.{MarksAll, step_logged, step_marked, step_taken, step_unmarked}
use Rattle.settlement.proofs.marks.mark_records.Goals as goal

-- a read leaves no record
pub loop-receipt-preserved-then-is_read : goal.loop-receipt-preserved-then-is_read
loop-receipt-preserved-then-is_read c =
    let i = c.loop-receipt.receipt-index in
    let xs = c.args.receipts.now in
    let x = c.receipt-item.result in
    let so_far = c.loop-receipt.invariant in
    let inside = c.loop-receipt-test.true in
    let is = c.receipt-item.is in
    let read : is_read x ≡ true = sym c.is_read.ensures ∙ c.if-is_read.true in
    record {
      lengths = so_far.lengths;
      logged =
          step_logged c.args.records.now c.args.forced_end xs i x so_far.logged inside is
          (λ no. let clash : true ≡ false = sym read ∙ no in cc);
      marked =
          step_unmarked c.args.marks.now c.loop-receipt.marks xs i x so_far.marked inside is
          read;
    }

-- a record that stands in the log, and was not marked
pub loop-receipt-preserved : goal.loop-receipt-preserved
loop-receipt-preserved c =
    let i = c.loop-receipt.receipt-index in
    let xs = c.args.receipts.now in
    let x = c.receipt-item.result in
    let so_far = c.loop-receipt.invariant in
    let inside = c.loop-receipt-test.true in
    let is = c.receipt-item.is in
    let marks = c.loop-receipt.marks in
    let written : is_read x ≡ false = sym c.is_read.ensures ∙ c.if-is_read.false in
    let m = c.in_default.ensures.marked in
    let made : c.mark.new.marks ≡ slice_set marks m.0 true = m.4 in
    record {
      lengths = ap length made ∙ length-set marks m.0 true ∙ so_far.lengths;
      logged =
          step_logged c.args.records.now c.args.forced_end xs i x so_far.logged inside is
          (λ no. c.in_default.ensures.ok);
      marked =
          subst (λ (new : List Bool). MarksAll c.args.marks.now new (take (i + 1) xs)) (sym made)
          (step_marked c.args.marks.now marks xs i m.0 x so_far.marked inside is written m.1 m.2
          m.3);
    }

-- the record does not stand in the log, or was marked already
pub returns-in-Err-clause-err : goal.returns-in-Err-clause-err
returns-in-Err-clause-err c =
    let i = c.loop-receipt.receipt-index in
    let xs = c.args.receipts.now in
    let x = c.receipt-item.result in
    let inside = c.loop-receipt-test.true in
    let same : (d : Receipt) → x ≡ slice_index_or xs i d =
    λ d. c.receipt-item.is ∙ get_or_default xs i x d inside in
    let why : (¬ IsLogged c.args.records.now c.args.forced_end x)
    ⊎ IsTaken c.args.marks.now (take i xs) c.in-Err.at =
    elim c.in-Err.ensures.err [
      | inl unlogged ↦ inl unlogged
      | inr taken ↦
          inr (step_taken c.args.marks.now c.loop-receipt.marks xs i taken.0 c.in-Err.at
          c.loop-receipt.invariant.marked (c.in-Err.ensures.at ∙ taken.1) taken.2)
    ] in
    let here : IsUnlogged c.args.records.now c.args.forced_end c.args.marks.now (take i xs) x
    c.in-Err.at =
    record {
      is_written = sym c.is_read.ensures ∙ c.if-is_read.false;
      place = sym c.in-Err.ensures.at;
      why = why;
    } in (
      i,
      inside,
      λ d. subst (λ (y : Receipt). IsUnlogged c.args.records.now c.args.forced_end
          c.args.marks.now (take i xs) y c.in-Err.at) (same d) here,
    )

-- all receipts were gone through
pub returns-clause-logged : goal.returns-clause-logged
returns-clause-logged c =
    let all = take_all c.loop-receipt.receipt-index c.args.receipts.now (omega arith) in
    subst (λ (xs : List Receipt). AreLogged c.args.records.now c.args.forced_end xs) all
    c.loop-receipt.invariant.logged

pub returns-clause-marked : goal.returns-clause-marked
returns-clause-marked c =
    let all = take_all c.loop-receipt.receipt-index c.args.receipts.now (omega arith) in
    subst (λ (xs : List Receipt). MarksAll c.args.marks.now c.loop-receipt.marks xs) all
    c.loop-receipt.invariant.marked
