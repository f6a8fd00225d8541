use Rattle.std.proofs.Common.{inl, inr, sym, ◌∙◌, ◌≡◌}
use Rattle.log_records.specs.Log.{lsn_of}
use Rattle.settlement.specs.Receipt.{IsRecordOf, position}
use Rattle.settlement.proofs.Logged.{has_here, has_none, has_this}
use Rattle.settlement.proofs.marks.mark.Goals as goal
use Rattle.settlement.proofs.marks.mark.Goals.{then-marks-index-via-then-marks-index}
use Rattle.settlement.proofs.marks.mark.Goals.{then-marks-index-via-else-marks-index+then-not-is_record_of}
use Rattle.settlement.proofs.marks.mark.Goals.{then-marks-index-via-else-marks-index+else-not-is_record_of+then-not-is_forced}

-- no record stands at the position
pub returns-in_default-clause-err : goal.returns-in_default-clause-err
returns-in_default-clause-err c =
    let receipt = c.args.receipt.now in
    inl (λ logged. has_none c.args.records.now (IsRecordOf receipt) (position receipt)
    (λ i at. c.in_default.ensures.none i (c.position-at.ensures ∙ at)) logged.there)

-- it is marked, it is not the receipt's, or it is a Commit that is not forced
pub returns-then-marks-index-clause-err : goal.returns-then-marks-index-clause-err
returns-then-marks-index-clause-err c =
    let receipt = c.args.receipt.now in
    let i = c.in-Some.index in
    let found = c.in-Some.ensures.some in
    let at : position receipt ≡ lsn_of i = sym c.position-at.ensures ∙ found.0 in
    elim c.then-marks-index.branch [
      | then-marks-index-via-then-marks-index w ↦ inr (i, at, w.if-marks-index.true)
      | then-marks-index-via-else-marks-index+then-not-is_record_of w ↦
          inl (λ logged. w.is_record_of.ensures.no w.if-not-is_record_of.true
          (has_this c.args.records.now (IsRecordOf receipt) (position receipt) i
          w.index-records-index.result at found.1 w.index-records-index.is logged.there))
      | then-marks-index-via-else-marks-index+else-not-is_record_of+then-not-is_forced w ↦
          inl (λ logged. w.is_forced.ensures.no w.if-not-is_forced.true logged.forced)
    ]

-- the record stands there
pub returns-clause-ok : goal.returns-clause-ok
returns-clause-ok c =
    let receipt = c.args.receipt.now in
    let i = c.in-Some.index in
    let found = c.in-Some.ensures.some in
    record {
      there =
          has_here c.args.records.now (IsRecordOf receipt) (position receipt) i
          c.index-records-index.result (sym c.position-at.ensures ∙ found.0) found.1
          c.index-records-index.is (c.is_record_of.ensures.yes c.if-not-is_record_of.false);
      forced = c.is_forced.ensures.yes c.if-not-is_forced.false;
    }
