use Rattle.std.proofs.Common.{◌≤◌, ◌<◌, ℕ, length, get_or}
use Rattle.std.specs.Char.{IsAsciiDigit}
use Rattle.file_outputs.proofs.leftovers.before_digits.Given as goal

abbrev pub invariant-loop-end : goal.invariant-loop-end
invariant-loop-end l = (l.end ≤ length l.bytes) × ((at : ℕ) → l.end ≤ at → at < length l.bytes → IsAsciiDigit (get_or l.bytes at 0))

abbrev pub decreases-loop-end : goal.decreases-loop-end
decreases-loop-end l = l.end
