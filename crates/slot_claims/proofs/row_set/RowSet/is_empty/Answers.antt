use Rattle.std.proofs.Common.{◌<◌, ◌^◌, ap, arith, eqb}
use Rattle.std.proofs.lemmas.Nat.Bits.{bit_at-trailing_zeros}
use Rattle.std.proofs.lemmas.Bool.{eqb-false}
use Rattle.std.specs.Int.{trailing_zeros, w64}
use Rattle.slot_claims.specs.RowSet.{has_row}
use Rattle.slot_claims.proofs.row_set.RowSet.is_empty.Goals as goal

pub returns-clause-some : goal.returns-clause-some
unfolding has_row
returns-clause-some c = λ some.
    let bits = c.args.self.bits in
    let none = eqb-false bits 0 some in
    let positive : 0 < bits = omega (arith, none) in
    let fits : bits < 2 ^ 64 = omega arith in
    let lowest = bit_at-trailing_zeros w64 bits positive fits in
    record { row = trailing_zeros w64 bits; within = lowest.0; there = ap (λ n. eqb n 1) lowest.1 }
