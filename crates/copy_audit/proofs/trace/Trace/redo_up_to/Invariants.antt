use Rattle.std.proofs.Common.{◌≡◌, ◌-◌, ◌/◌, ◌<◌, ◌≤◌, ℕ, List, length, get_or, take}
use Rattle.page_core.specs.Page.{formatted}
use Rattle.log_records.specs.declared.record.Record.{Record}
use Rattle.log_records.specs.Image.{image_from}
use Rattle.page_redo.specs.Placed.{Placed}
use Rattle.page_redo.specs.PageRecords.{numbers_on}
use Rattle.log_store.specs.PageHistory.{records_at}
use Rattle.copy_audit.specs.Changes.{AreChangesOf}
use Rattle.copy_audit.proofs.trace.Trace.redo_up_to.Given as goal

abbrev pub invariant-loop-self : goal.invariant-loop-self
invariant-loop-self l = record {
  onwards : l.fn.self.done ≤ l.self.done;
  within : l.fn.self.done ≤ length l.changes → l.self.done ≤ length l.changes;
  made : (rs : List Record) (number all : ℕ) → AreChangesOf rs number all l.changes
      → l.fn.self.page ≡ image_from (formatted number) (records_at rs (take l.fn.self.done (numbers_on rs 0 number)))
      → l.self.page ≡ image_from (formatted number) (records_at rs (take l.self.done (numbers_on rs 0 number)));
  below : (i : ℕ) (d : Placed) → l.fn.self.done ≤ i → i < l.self.done → (get_or l.changes i d).lsn / 64 ≤ l.count;
}

abbrev pub decreases-loop-self : goal.decreases-loop-self
decreases-loop-self l = length l.changes - l.self.done
