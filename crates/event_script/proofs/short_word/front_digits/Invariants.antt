use Rattle.std.proofs.Common.{◌≡◌, ℕ, ◌<◌, ◌≤◌, ◌^◌, Some, get_or, take}
use Rattle.event_script.specs.Words.{digits_after}
use Rattle.event_script.proofs.short_word.front_digits.Given as goal

abbrev pub invariant-loop-i : goal.invariant-loop-i
invariant-loop-i l = record {
  made : digits_after 0 (take l.i l.text) ≡ Some l.number;
  small : l.number < 10 ^ l.i;
  few : l.i ≤ 19;
  none : (k : ℕ) → k < l.i → get_or l.text k 0 ≡ 32 → ⊥;
}
