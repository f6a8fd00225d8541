use Rattle.std.proofs.Common.{◌≡◌, ℕ, ◌<◌, ◌*◌, ◌^◌, take, drop, get_or}
use Rattle.std.specs.Int.{w64, to_le_bytes}
use Rattle.page_core.proofs.page.slots_in.Given as goal

abbrev pub invariant-loop-i : goal.invariant-loop-i
invariant-loop-i l = record {
  spelled : (k : ℕ) → k < l.i → take 8 (drop (8 * k) l.bytes) ≡ to_le_bytes w64 (get_or l.slot-items k 0);
  fits : (k : ℕ) → k < l.i → get_or l.slot-items k 0 < 2 ^ 64;
}
