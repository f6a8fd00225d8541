-- What a complete checkpoint of a log names.
use Rattle.std.proofs.Common.{ℕ, ◌<◌, List, ◌∷◌, length, get_or, ap, subst, ◌∙◌, arith, refl}
use Rattle.std.specs.List.{Contains}
use Rattle.std.proofs.lemmas.List.{get_or_at, length-append}
use Rattle.log_records.specs.declared.record.Record.{Record}
use Rattle.log_records.specs.declared.record.Record.TheVariants.{EndChkpt}
use Rattle.log_records.specs.Log.{IsLog, Log}
use Rattle.log_records.specs.Record.{IsRecord}
use Rattle.log_rules.specs.Checkpoint.{IsCompleteCheckpoint}
use Rattle.log_rules.specs.Linked.{IsLinked}
use Rattle.log_rules.proofs.Public.{redo_not_past}
use Rattle.copy_coverage.specs.Copied.{IsPoint}

-- the end of a complete checkpoint stands in its log
pub ended_in : (log : Log) (begin end : ℕ) (is : IsCompleteCheckpoint log.records begin end)
    → Contains log.records (EndChkpt end begin is.redo)
ended_in log begin end is =
    let rs = log.records in
    let k = length is.before in
    let r = EndChkpt end begin is.redo in (
      k,
      omega (arith, ap length is.ended, length-append is.before (r ∷ is.behind)),
      ap (λ (xs : List Record). get_or xs k r) is.ended ∙ get_or_at is.before r is.behind r k refl,
    )

pub end_is_record : (log : Log) (begin end : ℕ) (is : IsCompleteCheckpoint log.records begin end) → IsLog log
    → IsRecord (EndChkpt end begin is.redo)
end_is_record log begin end is valid =
    let r = EndChkpt end begin is.redo in
    let there = ended_in log begin end is in
    subst IsRecord there.2 (valid.records there.0 r there.1).valid

-- the redo point of a complete checkpoint lies before its end
pub redo_before_end : (log : Log) (begin end : ℕ) (is : IsCompleteCheckpoint log.records begin end) → IsLog log
    → is.redo < end
redo_before_end log begin end is valid = (end_is_record log begin end is valid).2.earlier

-- and so does its begin
pub begin_before_end : (log : Log) (begin end : ℕ) (is : IsCompleteCheckpoint log.records begin end) → IsLog log
    → begin < end
begin_before_end log begin end is valid = (end_is_record log begin end is valid).1.earlier

-- a copy may note it
pub point_of : (log : Log) (begin end : ℕ) (is : IsCompleteCheckpoint log.records begin end) → IsLog log
    → IsLinked log.records → IsPoint begin is.redo
point_of log begin end is valid linked =
    let record_is = end_is_record log begin end is valid in
    record {
      begun = record_is.1.place;
      redone = record_is.2.place;
      order = redo_not_past log.records begin end is.redo linked (ended_in log begin end is);
    }
