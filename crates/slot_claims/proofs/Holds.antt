-- Claims, row by row and slot by slot.
use Rattle.std.proofs.Common.{◌≡◌, ◌∙◌, ◌*◌, ◌%◌, ◌^◌, ◌<◌, ℕ, true, false, Result, Ok, Err, cond, eqb, sym, ap, ⊎_elim}
use Rattle.std.proofs.lemmas.Bool.{cases_eq, eq-eqb, ne_eqb}
use Rattle.std.proofs.lemmas.Nat.Bits.{bit_at_clear_other, bit_at_clear_same, bit_at_set_other, bit_at_set_same}
use Rattle.std.proofs.lemmas.Nat.Bits.{bit_at-zero}
use Rattle.std.specs.Int.{bit_at, bit_not}
use Rattle.std.specs.Int.RustNames.{bit_or}
use Rattle.std.specs.Result.{OnErr}
use lib.Bits.{bit_and}
use mir.Syntax.{w64}
use Rattle.page_core.specs.declared.change.ChangeKind.{ChangeKind}
use Rattle.page_core.specs.declared.change.ChangeKind.TheVariants as kinds
use Rattle.slot_claims.specs.declared.claims.Claims.{Claims}
use Rattle.slot_claims.specs.declared.claims.Hold.{Hold}
use Rattle.slot_claims.specs.Claims.{IsFreeFor, IsHeldByOther, KeepsHolds, claim_at, hold_in, no_claim, no_hold}
use Rattle.slot_claims.specs.Claims.{rows_against}
use Rattle.slot_claims.specs.RowSet.{has_row, no_rows}

-- ---- bits

pub with_bit : (n k i : ℕ) → k < 64 → i < 64
    → eqb (bit_at (bit_or n (1 * 2 ^ k % 2 ^ 64)) i) 1 ≡ cond (eqb i k) true (eqb (bit_at n i) 1)
with_bit n k i within below = ⊎_elim
    (λ e. ap (λ j. eqb (bit_at (bit_or n (1 * 2 ^ k % 2 ^ 64)) j) 1) e
    ∙ ap (λ b. eqb b 1) (bit_at_set_same w64 n k within)
    ∙ sym (ap (λ t. cond t true (eqb (bit_at n i) 1)) (eq-eqb i k e)))
    (λ ne. ap (λ b. eqb b 1) (bit_at_set_other w64 n k within i ne)
    ∙ sym (ap (λ t. cond t true (eqb (bit_at n i) 1)) (ne_eqb i k ne)))
    (cases_eq i k)

pub without_bit : (n k i : ℕ) → k < 64 → i < 64
    → eqb (bit_at (bit_and n (bit_not w64 (1 * 2 ^ k % 2 ^ 64))) i) 1 ≡ cond (eqb i k) false (eqb (bit_at n i) 1)
without_bit n k i within below = ⊎_elim
    (λ e. ap (λ j. eqb (bit_at (bit_and n (bit_not w64 (1 * 2 ^ k % 2 ^ 64))) j) 1) e
    ∙ ap (λ b. eqb b 1) (bit_at_clear_same w64 n k within)
    ∙ sym (ap (λ t. cond t false (eqb (bit_at n i) 1)) (eq-eqb i k e)))
    (λ ne. ap (λ b. eqb b 1) (bit_at_clear_other w64 n k within i below ne)
    ∙ sym (ap (λ t. cond t false (eqb (bit_at n i) 1)) (ne_eqb i k ne)))
    (cases_eq i k)

-- ---- claims

pub hold_in-no_claim : (row : ℕ) → hold_in no_claim row ≡ no_hold
unfolding has_row
hold_in-no_claim row =
    ap (λ b. record { against_sets = eqb b 1; against_adds = eqb b 1 }) (bit_at-zero row)

-- ---- results

pub on_err_from : {T E : Type 0} (r : Result T E) (P : Type 0) → P → OnErr r P
on_err_from (Ok x) P p = tt
on_err_from (Err e) P p = p

pub has_row-no_rows : (row : ℕ) → has_row no_rows row ≡ false
unfolding has_row
has_row-no_rows row = ap (λ b. eqb b 1) (bit_at-zero row)

-- ---- claims that say the same of each row

module _ (before after : Claims) (page slot : ℕ) (kind : ChangeKind) (row : ℕ) (same : KeepsHolds before after) where
  same_against : (other : ℕ) → has_row (rows_against (claim_at after page slot) kind) other
      ≡ has_row (rows_against (claim_at before page slot) kind) other
  same_against other = of_kind kind
    where
      of_kind : (k : ChangeKind) → has_row (rows_against (claim_at after page slot) k) other
          ≡ has_row (rows_against (claim_at before page slot) k) other
      of_kind kinds.Set = ap (λ (h : Hold). h.against_sets) (same page slot other)
      of_kind kinds.Add = ap (λ (h : Hold). h.against_adds) (same page slot other)

  pub free-before : IsFreeFor (claim_at after page slot) kind row → IsFreeFor (claim_at before page slot) kind row
  free-before free other within apart = sym (same_against other) ∙ free other within apart

  pub held-before : IsHeldByOther (claim_at after page slot) kind row
      → IsHeldByOther (claim_at before page slot) kind row
  held-before held = record {
    other = held.other;
    within = held.within;
    is_other = held.is_other;
    held = sym (same_against held.other) ∙ held.held;
  }
