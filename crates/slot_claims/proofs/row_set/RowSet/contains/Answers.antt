use Rattle.std.proofs.Common.{ap, eqb}
use Rattle.std.proofs.lemmas.Nat.Bits.{shr_and_one}
use Rattle.slot_claims.specs.RowSet.{has_row}
use Rattle.slot_claims.proofs.row_set.RowSet.contains.Goals as goal

pub returns : goal.returns
unfolding has_row
returns c = ap (λ n. eqb n 1) (shr_and_one c.args.self.bits c.args.row)
