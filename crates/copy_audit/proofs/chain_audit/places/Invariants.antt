use Rattle.std.proofs.Common.{◌≡◌, length}
use Rattle.copy_audit.proofs.chain_audit.places.Given as goal

abbrev pub invariant-loop : goal.invariant-loop
invariant-loop l = length l.row.items ≡ l.counter
