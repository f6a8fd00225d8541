use Rattle.std.proofs.Common.{ℕ, ◌<◌, List, map}
use Rattle.copy_vault.specs.ChainEach.{place_list}
use Rattle.log_records.specs.declared.record.Record.{Record}
use Rattle.copy_audit.specs.Changes.{AreChangesOf}
use Rattle.copy_audit.specs.Rows.{IsSoundIn, content_in}
use Rattle.copy_audit.specs.Trace.{IsReach, IsTraced}
use Rattle.copy_audit.proofs.members.first_unsound.Given as goal

abbrev pub invariant-loop-member : goal.invariant-loop-member
invariant-loop-member l = record {
  traced : (rs : List Record) → AreChangesOf rs l.number l.count l.changes → IsTraced rs l.number l.trace;
  reach : (rs : List Record) → AreChangesOf rs l.number l.count l.changes
      → IsReach rs l.number (content_in l.number (map place_list l.row) l.member) l.reach;
  sound : (rs : List Record) → AreChangesOf rs l.number l.count l.changes
      → (k : ℕ) → k < l.member → IsSoundIn rs l.number (map place_list l.row) l.points k;
}
