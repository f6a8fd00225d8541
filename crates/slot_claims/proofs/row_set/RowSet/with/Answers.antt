use Rattle.std.proofs.Common.{◌∙◌, ap, cond, eqb, sym}
use Rattle.slot_claims.specs.RowSet.{has_row}
use Rattle.slot_claims.proofs.Holds.{with_bit, without_bit}
use Rattle.slot_claims.proofs.row_set.RowSet.with.Goals as goal

pub returns-then-present : goal.returns-then-present
unfolding has_row
returns-then-present c = λ other below.
    with_bit c.args.self.bits c.args.row other c.requires below
    ∙ sym (ap (λ b. cond (eqb other c.args.row) b (has_row c.args.self other)) c.if-present.true)

pub returns-else-present : goal.returns-else-present
unfolding has_row
returns-else-present c = λ other below.
    without_bit c.args.self.bits c.args.row other c.requires below
    ∙ sym (ap (λ b. cond (eqb other c.args.row) b (has_row c.args.self other)) c.if-present.false)
