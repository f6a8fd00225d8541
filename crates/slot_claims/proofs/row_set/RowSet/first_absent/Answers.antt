use Rattle.std.proofs.Common.{ℕ, ◌≡◌, ◌<◌, ◌-◌, ◌^◌, ◌∙◌, false, ap, arith, eqb, sym}
use Rattle.std.proofs.lemmas.Bool.{false≢true}
use Rattle.std.proofs.lemmas.Nat.Bits.{bit_at-trailing_ones, bit_at_ones}
use Rattle.std.specs.Int.{bit_at, trailing_ones, w64}
use Rattle.slot_claims.specs.RowSet.{has_row}
use Rattle.slot_claims.proofs.row_set.RowSet.first_absent.Goals as goal

not_full : (n row : ℕ) → row < 64 → eqb (bit_at n row) 1 ≡ false → n ≡ 2 ^ 64 - 1 → ⊥
not_full n row within lacks full =
    false≢true (sym lacks ∙ ap (λ b. eqb b 1) (ap (λ m. bit_at m row) full ∙ bit_at_ones 64 row within))

-- what `trailing_ones` of a set that lacks a row is
lowest : (n row : ℕ) → n < 2 ^ 64 → row < 64 → eqb (bit_at n row) 1 ≡ false
    → (trailing_ones w64 n < 64) × (bit_at n (trailing_ones w64 n) ≡ 0)
    × ((i : ℕ) → i < trailing_ones w64 n → bit_at n i ≡ 1)
lowest n row fits within lacks =
    let none = not_full n row within lacks in
    bit_at-trailing_ones w64 n (omega (arith, none))

pub returns-clause-within : goal.returns-clause-within
unfolding has_row
returns-clause-within c =
    let n = c.args.self.bits in
    let fits : n < 2 ^ 64 = omega arith in
    omega (arith, c.trailing_ones.ensures, (lowest n c.requires.row fits c.requires.within c.requires.lacks).0)

pub returns-clause-absent : goal.returns-clause-absent
unfolding has_row
returns-clause-absent c =
    let n = c.args.self.bits in
    let fits : n < 2 ^ 64 = omega arith in
    ap (λ i. eqb (bit_at n i) 1) c.trailing_ones.ensures
    ∙ ap (λ b. eqb b 1) (lowest n c.requires.row fits c.requires.within c.requires.lacks).1

pub returns-clause-below : goal.returns-clause-below
unfolding has_row
returns-clause-below c = λ other lt.
    let n = c.args.self.bits in
    let fits : n < 2 ^ 64 = omega arith in
    ap (λ b. eqb b 1) ((lowest n c.requires.row fits c.requires.within c.requires.lacks).2 other
    (omega (arith, c.trailing_ones.ensures)))
