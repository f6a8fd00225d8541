use Rattle.std.proofs.Common.{◌≡◌, ◌+◌, vec_len}
use Rattle.engine_run.proofs.shared.spares_of.Given as goal

-- each spare has one of the parts, and counts nothing
abbrev pub invariant-loop : goal.invariant-loop
invariant-loop g l =
    (l.rest.parts + l.counter ≡ 65) × (l.rest.amount ≡ 0) × (vec_len l.spares ≡ l.counter)
