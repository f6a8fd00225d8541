use Rattle.std.proofs.Common.{◌≡◌, ℕ, ◌+◌, ◌<◌, ◌≤◌, get_or}
use Rattle.page_core.proofs.input.keep_from.Given as goal

abbrev pub invariant-loop-i : goal.invariant-loop-i
invariant-loop-i l = record {
  moved : (k : ℕ) → k < l.i → get_or l.buffer k 0 ≡ get_or l.fn.buffer (l.from + k) 0;
  kept : (k : ℕ) → l.i ≤ k → get_or l.buffer k 0 ≡ get_or l.fn.buffer k 0;
}
