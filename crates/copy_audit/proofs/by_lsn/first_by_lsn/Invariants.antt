use Rattle.std.proofs.Common.{ℕ, ◌<◌, List, map}
use Rattle.copy_vault.specs.ChainEach.{place_list}
use Rattle.log_records.specs.declared.record.Record.{Record}
use Rattle.copy_audit.specs.Changes.{AreChangesOf}
use Rattle.copy_audit.specs.Rows.{IsSoundIn, content_in}
use Rattle.copy_audit.specs.Trace.{IsReach}
use Rattle.copy_audit.proofs.by_lsn.first_by_lsn.Given as goal

abbrev pub invariant-loop-member : goal.invariant-loop-member
invariant-loop-member l = record {
  reach : (rs : List Record) → AreChangesOf rs l.fn.number l.fn.count l.changes
      → IsReach rs l.fn.number (content_in l.fn.number (map place_list l.row) l.member) l.reach;
  sound : (rs : List Record) → AreChangesOf rs l.fn.number l.fn.count l.changes
      → (k : ℕ) → k < l.member → IsSoundIn rs l.fn.number (map place_list l.row) l.points k;
}
