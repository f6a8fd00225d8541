use Rattle.std.proofs.Common.{◌≡◌, ◌-◌, ◌<◌, ◌≤◌, ℕ, length, get_or, take}
use Rattle.page_core.specs.Page.{formatted}
use Rattle.log_records.specs.Image.{image_from}
use Rattle.log_store.specs.PageHistory.{records_at}
use Rattle.copy_audit.proofs.page_audit.redo_listed.Given as goal

abbrev pub invariant-loop-trace : goal.invariant-loop-trace
invariant-loop-trace l = record {
  onwards : l.fn.trace.done ≤ l.trace.done;
  within : l.fn.trace.done ≤ length l.numbers → l.trace.done ≤ length l.numbers;
  made : (number : ℕ) → l.fn.trace.page ≡ image_from (formatted number) (records_at l.records (take l.fn.trace.done l.numbers))
      → l.trace.page ≡ image_from (formatted number) (records_at l.records (take l.trace.done l.numbers));
  below : (i : ℕ) → l.fn.trace.done ≤ i → i < l.trace.done → get_or l.numbers i 0 < l.count;
}

abbrev pub decreases-loop-trace : goal.decreases-loop-trace
decreases-loop-trace l = length l.numbers - l.trace.done
