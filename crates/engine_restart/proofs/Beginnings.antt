-- Where a copy of an older life began.
use Rattle.std.proofs.Common.{◌≡◌, ◌↔◌, ◌<◌, Bool, true, ℕ, length, refl, ap, sym, subst, arith, ◌∙◌}
use Rattle.std.specs.Prelude.{Option, Some, None, is_some}
use Rattle.page_core.specs.PageCounts.{count_below}
use Rattle.log_records.specs.Log.{IsLog, Log, counts_of, lsn_of}
use Rattle.log_records.proofs.Public.{count_below-counts_of}
use Rattle.log_rules.specs.Linked.{IsLinked}
use Rattle.log_rules.proofs.Public.{complete-of_end, end-of_complete}
use Rattle.fuzzy_ckpt.specs.declared.point.Point.{Point}
use Rattle.fuzzy_ckpt.specs.LogCheckpoints.{IsLastPoint}
use Rattle.copy_vault.specs.Copy.{CopyView}
use Rattle.copy_coverage.specs.Copied.{IsPoint}
use Rattle.engine_restart.specs.Added.{BeginsIn, IsCheckpointed}

pub checkpoint_there : (log : Log) (last : Option Point) → IsLinked log.records → IsLastPoint log log.records last
    → (is_some last ≡ true) ↔ IsCheckpointed log
checkpoint_there log None linked none = (
  λ e. cc,
  λ (begin, end, is). let ends = end-of_complete log.records begin end is in absurd (none end begin ends.0 ends.1),
)
checkpoint_there log (Some point) linked last = (
  λ e. (point.begin, point.end, complete-of_end log.records point.begin point.end point.redo linked last.0.ended),
  λ has. refl,
)

-- and it is told whether it is there
pub last_there : (log : Log) (last : Option Point) (b : Bool) → b ≡ is_some last → IsLinked log.records
    → IsLastPoint log log.records last → (b ≡ true) ↔ IsCheckpointed log
last_there log last b is linked of_log =
    subst (λ (x : Bool). (x ≡ true) ↔ IsCheckpointed log) (sym is) (checkpoint_there log last linked of_log)

pub begins : (log : Log) (copy : CopyView) (begin redo end pages below : ℕ) → IsLog log → begin ≡ copy.begin
    → redo ≡ copy.redo → IsPoint begin redo → begin < end → end ≡ lsn_of (length log.records)
    → pages ≡ length copy.pages → pages ≡ below → below ≡ count_below (counts_of log) begin → IsCheckpointed log
    → BeginsIn log copy
begins log copy begin redo end pages below valid begin_is redo_is point lt end_is pages_are same below_is has = record {
  noted = subst (λ (n : ℕ). IsPoint n copy.redo) begin_is (subst (IsPoint begin) redo_is point);
  within = omega (arith, lt, begin_is, end_is);
  whole = sym pages_are ∙ same ∙ below_is ∙ ap (count_below (counts_of log)) begin_is
      ∙ count_below-counts_of log copy.begin valid;
  complete = has;
}
