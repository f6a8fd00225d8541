use Rattle.std.proofs.Common.{◌≤◌, ◌<◌, ◌-◌, ℕ, length, get_or}
use Rattle.page_core.specs.declared.page.Page.{Page}
use Rattle.page_decisions.specs.Slots.{values}
use Rattle.page_decisions.proofs.places.first_from.Given as goal

abbrev pub decreases-loop-from : goal.decreases-loop-from
decreases-loop-from l = l.end - l.from

abbrev pub invariant-loop-from : goal.invariant-loop-from
invariant-loop-from l = record {
  order : l.from ≤ l.end;
  within : l.end ≤ length (values l.places);
  before : (k : ℕ) (d : Page) → k < l.from → (get_or (values l.places) k d).number < l.fn.number;
  at : (d : Page) → l.end < length (values l.places) → l.fn.number ≤ (get_or (values l.places) l.end d).number;
}
