-- Claims as marks and adders hold them: what a change of one slot says of every row.
use Rattle.std.proofs.Common.{◌≡◌, ◌≢◌, ◌∙◌, ◌<◌, ◌&&◌, ◌^◌, ℕ, Bool, true, false, cond, eqb, inl, inr, refl, sym, ap}
use Rattle.std.proofs.Common.{ap₂, subst}
use Rattle.std.proofs.lemmas.Bool.{and_parts, cases_Bool, cases_eq, eq-eqb, eqb-true, false_from_ne_true, false≢true}
use Rattle.std.proofs.lemmas.Bool.{ne_eqb}
use Rattle.std.proofs.lemmas.Nat.Bits.{bit_at-pow_other, bit_at-pow_same}
use Rattle.std.specs.Int.{bit_at}
use Rattle.page_core.specs.declared.change.ChangeKind.{ChangeKind}
use Rattle.page_core.specs.declared.change.ChangeKind.TheVariants as kind
use Rattle.slot_claims.specs.declared.claims.Claims.{Claims}
use Rattle.slot_claims.specs.declared.claims.Hold.{Hold}
use Rattle.slot_claims.specs.declared.holder_byte.Holder.{Holder}
use Rattle.slot_claims.specs.declared.holder_byte.Holder.TheVariants.{Nobody, One, Adders}
use Rattle.slot_claims.specs.declared.row_set.RowSet.{RowSet}
use Rattle.slot_claims.specs.declared.row_set.TheConstants.{ROWS}
use Rattle.slot_claims.specs.Adders.{rows_at}
use Rattle.slot_claims.specs.Claims.{IsFreeFor, IsHeldByOther, IsWeaker, KeepsHolds, Refused, SetsHold, Taken, claim_of}
use Rattle.slot_claims.specs.Claims.{hold_at, hold_in, hold_with, no_claim, no_hold, rows_against}
use Rattle.slot_claims.specs.Marks.{holder_at}
use Rattle.slot_claims.specs.RowSet.{HasSome, has_row, no_rows, only}
use Rattle.slot_claims.proofs.Holds.{has_row-no_rows, hold_in-no_claim}

-- ---- one row

pub has_row-only : (row other : ℕ) → has_row (only row) other ≡ eqb other row
unfolding has_row
has_row-only row other = elim (cases_eq other row) [
  | inl same ↦
      ap (λ n. eqb n 1) (ap (λ i. bit_at (2 ^ row) i) same ∙ bit_at-pow_same row)
      ∙ sym (eq-eqb other row same)
  | inr apart ↦ ap (λ n. eqb n 1) (bit_at-pow_other row other apart) ∙ sym (ne_eqb other row apart)
]

-- what one holder keeps out, row by row
pub hold_one : (row : ℕ) (k : ChangeKind) (rows : RowSet) (other : ℕ)
    → hold_in (claim_of (One row k) rows) other ≡ cond (eqb other row) (hold_with no_hold k) no_hold
hold_one row kind.Add rows other =
    ap₂ (λ a b. let h : Hold = record { against_sets = a; against_adds = b } in h) (has_row-only row other)
    (has_row-no_rows other)
    ∙ by_bit (eqb other row)
  where
    by_bit : (b : Bool) → (let h : Hold = record { against_sets = b; against_adds = false } in h)
        ≡ cond b (hold_with no_hold kind.Add) no_hold
    by_bit true = refl
    by_bit false = refl
hold_one row kind.Set rows other =
    ap (λ a. let h : Hold = record { against_sets = a; against_adds = a } in h) (has_row-only row other)
    ∙ by_bit (eqb other row)
  where
    by_bit : (b : Bool) → (let h : Hold = record { against_sets = b; against_adds = b } in h)
        ≡ cond b (hold_with no_hold kind.Set) no_hold
    by_bit true = refl
    by_bit false = refl

-- ---- a change of one slot

-- the holder and the adders of one slot change
pub sets-hold : (before after : Claims) (page slot row : ℕ) (holder : Holder) (rows : RowSet) (hold : Hold)
    → ((p s : ℕ) → holder_at after.marks p s
    ≡ cond (eqb page p && eqb slot s) holder (holder_at before.marks p s))
    → ((p s : ℕ) → rows_at after.adders p s
    ≡ cond (eqb page p && eqb slot s) rows (rows_at before.adders p s))
    → ((other : ℕ) → other < ROWS → hold_in (claim_of holder rows) other
    ≡ cond (eqb other row) hold (hold_at before page slot other))
    → SetsHold before after page slot row hold
sets-hold before after page slot row holder rows hold marks adders says p s other within =
    ap₂ (λ h a. hold_in (claim_of h a) other) (marks p s) (adders p s)
    ∙ by_place (eqb page p && eqb slot s) (λ here. let both = and_parts (eqb page p) (eqb slot s) here in
    says other within
    ∙ ap (λ n. cond (eqb other row) hold (hold_at before n slot other)) (eqb-true page p both.0)
    ∙ ap (λ n. cond (eqb other row) hold (hold_at before p n other)) (eqb-true slot s both.1))
  where
    by_place : (b : Bool)
        → (b ≡ true → hold_in (claim_of holder rows) other ≡ cond (eqb other row) hold (hold_at before p s other))
        → hold_in (claim_of (cond b holder (holder_at before.marks p s))
        (cond b rows (rows_at before.adders p s))) other
        ≡ cond (b && eqb other row) hold (hold_at before p s other)
    by_place true here = here refl
    by_place false here = refl

-- what stays at one slot, said as a change of it
pub same_rows : (before : Claims) (page slot p s : ℕ)
    → rows_at before.adders p s
    ≡ cond (eqb page p && eqb slot s) (rows_at before.adders page slot) (rows_at before.adders p s)
same_rows before page slot p s = elim (cases_Bool (eqb page p && eqb slot s)) [
  | inl here ↦
      let both = and_parts (eqb page p) (eqb slot s) here in
      sym (ap (λ b. cond b (rows_at before.adders page slot) (rows_at before.adders p s)) here
      ∙ ap (λ n. rows_at before.adders n slot) (eqb-true page p both.0)
      ∙ ap (λ n. rows_at before.adders p n) (eqb-true slot s both.1))
  | inr there ↦ sym (ap (λ b. cond b (rows_at before.adders page slot) (rows_at before.adders p s)) there)
]

pub same_holder : (before : Claims) (page slot p s : ℕ)
    → holder_at before.marks p s
    ≡ cond (eqb page p && eqb slot s) (holder_at before.marks page slot) (holder_at before.marks p s)
same_holder before page slot p s = elim (cases_Bool (eqb page p && eqb slot s)) [
  | inl here ↦
      let both = and_parts (eqb page p) (eqb slot s) here in
      sym (ap (λ b. cond b (holder_at before.marks page slot) (holder_at before.marks p s)) here
      ∙ ap (λ n. holder_at before.marks n slot) (eqb-true page p both.0)
      ∙ ap (λ n. holder_at before.marks p n) (eqb-true slot s both.1))
  | inr there ↦ sym (ap (λ b. cond b (holder_at before.marks page slot) (holder_at before.marks p s)) there)
]

-- ---- a slot is taken

-- a holder of the slot before and one after, with the adders
pub taken : (before after : Claims) (page slot row : ℕ) (k : ChangeKind) (hold : Hold) (held now : Holder)
    (rows : RowSet)
    → holder_at before.marks page slot ≡ held
    → IsFreeFor (claim_of held (rows_at before.adders page slot)) k row
    → hold ≡ hold_in (claim_of held (rows_at before.adders page slot)) row
    → ((p s : ℕ) → holder_at after.marks p s ≡ cond (eqb page p && eqb slot s) now (holder_at before.marks p s))
    → ((p s : ℕ) → rows_at after.adders p s
    ≡ cond (eqb page p && eqb slot s) rows (rows_at before.adders p s))
    → ((other : ℕ) → other < ROWS → hold_in (claim_of now rows) other
    ≡ cond (eqb other row) (hold_with hold k) (hold_in (claim_of held (rows_at before.adders page slot)) other))
    → Taken before after page slot row k hold
taken before after page slot row k hold held now rows is free was marks adders says =
    let there = rows_at before.adders page slot in record {
      free = subst (λ (h : Holder). IsFreeFor (claim_of h there) k row) (sym is) free;
      was = was ∙ ap (λ (h : Holder). hold_in (claim_of h there) row) (sym is);
      sets = sets-hold before after page slot row now rows (hold_with hold k) marks adders
          (λ other within. says other within
          ∙ ap (λ (h : Holder). cond (eqb other row) (hold_with hold k) (hold_in (claim_of h there) other)) (sym is));
    }

pub refused : (before after : Claims) (page slot row : ℕ) (k : ChangeKind) (held : Holder)
    → holder_at before.marks page slot ≡ held
    → IsHeldByOther (claim_of held (rows_at before.adders page slot)) k row → KeepsHolds before after
    → Refused before after page slot row k
refused before after page slot row k held is other same = record {
  held = subst (λ (h : Holder). IsHeldByOther (claim_of h (rows_at before.adders page slot)) k row) (sym is) other;
  same = same;
}

-- ---- by nobody

pub free-nobody : (rows : RowSet) (k : ChangeKind) (row : ℕ) → IsFreeFor (claim_of Nobody rows) k row
free-nobody rows kind.Set row other within apart = has_row-no_rows other
free-nobody rows kind.Add row other within apart = has_row-no_rows other

pub from_nobody : (row : ℕ) (k : ChangeKind) (rows : RowSet) (other : ℕ)
    → hold_in (claim_of (One row k) rows) other
    ≡ cond (eqb other row) (hold_with no_hold k) (hold_in (claim_of Nobody rows) other)
from_nobody row k rows other =
    hold_one row k rows other ∙ ap (cond (eqb other row) (hold_with no_hold k)) (sym (hold_in-no_claim other))

-- ---- by one transaction

pub free-one : (row : ℕ) (held : ChangeKind) (rows : RowSet) (k : ChangeKind)
    → IsFreeFor (claim_of (One row held) rows) k row
free-one row kind.Set rows kind.Set other within apart = has_row-only row other ∙ ne_eqb other row apart
free-one row kind.Set rows kind.Add other within apart = has_row-only row other ∙ ne_eqb other row apart
free-one row kind.Add rows kind.Set other within apart = has_row-only row other ∙ ne_eqb other row apart
free-one row kind.Add rows kind.Add other within apart = has_row-no_rows other

pub of_one : (row : ℕ) (held : ChangeKind) (rows : RowSet)
    → hold_with no_hold held ≡ hold_in (claim_of (One row held) rows) row
of_one row held rows =
    sym (hold_one row held rows row ∙ ap (λ b. cond b (hold_with no_hold held) no_hold) (eq-eqb row row refl))

again : (b : Bool) (x y z : Hold) → cond b x z ≡ cond b x (cond b y z)
again true x y z = refl
again false x y z = refl

pub from_one : (row : ℕ) (held k both : ChangeKind) (rows : RowSet)
    → hold_with no_hold both ≡ hold_with (hold_with no_hold held) k → (other : ℕ)
    → hold_in (claim_of (One row both) rows) other
    ≡ cond (eqb other row) (hold_with (hold_with no_hold held) k) (hold_in (claim_of (One row held) rows) other)
from_one row held k both rows is other =
    hold_one row both rows other
    ∙ ap (λ h. cond (eqb other row) h no_hold) is
    ∙ again (eqb other row) (hold_with (hold_with no_hold held) k) (hold_with no_hold held) no_hold
    ∙ ap (cond (eqb other row) (hold_with (hold_with no_hold held) k)) (sym (hold_one row held rows other))

-- another transaction that holds it by a Set, or against one
pub held-one : (holder row : ℕ) (held k : ChangeKind) (rows : RowSet) → holder < ROWS → holder ≢ row
    → (held ≡ kind.Add → k ≡ kind.Add → ⊥) → IsHeldByOther (claim_of (One holder held) rows) k row
held-one holder row held k rows within apart never = record {
  other = holder;
  within = within;
  is_other = apart;
  held = by_kinds held k never;
}
  where
    there : has_row (only holder) holder ≡ true
    there = has_row-only holder holder ∙ eq-eqb holder holder refl

    by_kinds : (h c : ChangeKind) → (h ≡ kind.Add → c ≡ kind.Add → ⊥)
        → has_row (rows_against (claim_of (One holder h) rows) c) holder ≡ true
    by_kinds kind.Set kind.Set no_adds = there
    by_kinds kind.Set kind.Add no_adds = there
    by_kinds kind.Add kind.Set no_adds = there
    by_kinds kind.Add kind.Add no_adds = absurd (no_adds refl refl)

-- ---- by adders

pub free-adders : (rows : RowSet) (row : ℕ) → IsFreeFor (claim_of Adders rows) kind.Add row
free-adders rows row other within apart = has_row-no_rows other

abbrev pub adds_hold : Bool → Hold
adds_hold b = record { against_sets = b; against_adds = false }

pub of_adders : (rows : RowSet) (row : ℕ) → hold_in (claim_of Adders rows) row ≡ adds_hold (has_row rows row)
of_adders rows row =
    ap (λ b. let h : Hold = record { against_sets = has_row rows row; against_adds = b } in h)
    (has_row-no_rows row)

-- one adder more, and one less
pub with_adder : (old new : RowSet) (row : ℕ) (b : Bool) (other : ℕ)
    → has_row new other ≡ cond (eqb other row) b (has_row old other)
    → hold_in (claim_of Adders new) other
    ≡ cond (eqb other row) (adds_hold b) (hold_in (claim_of Adders old) other)
with_adder old new row b other says =
    of_adders new other ∙ ap adds_hold says ∙ by_row (eqb other row)
    ∙ ap (cond (eqb other row) (adds_hold b)) (sym (of_adders old other))
  where
    by_row : (c : Bool) → adds_hold (cond c b (has_row old other))
        ≡ cond c (adds_hold b) (adds_hold (has_row old other))
    by_row true = refl
    by_row false = refl

-- the only adder sets
pub from_alone : (old : RowSet) (row : ℕ) (hold : Hold) (other : ℕ) → (other ≢ row → has_row old other ≡ false)
    → hold_in (claim_of (One row kind.Set) old) other
    ≡ cond (eqb other row) (hold_with hold kind.Set) (hold_in (claim_of Adders old) other)
from_alone old row hold other alone = hold_one row kind.Set old other ∙ (elim (cases_eq other row) [
  | inl same ↦
      ap (λ b. cond b (hold_with no_hold kind.Set) no_hold) (eq-eqb other row same)
      ∙ sym (ap (λ b. cond b (hold_with hold kind.Set) (hold_in (claim_of Adders old) other)) (eq-eqb other row same))
  | inr apart ↦
      ap (λ b. cond b (hold_with no_hold kind.Set) no_hold) (ne_eqb other row apart)
      ∙ sym (ap (λ b. cond b (hold_with hold kind.Set) (hold_in (claim_of Adders old) other)) (ne_eqb other row apart)
      ∙ of_adders old other ∙ ap adds_hold (alone apart))
])

-- ---- the cases in which others add

-- two transactions add
pub taken_shared : (before after : Claims) (page slot row holder : ℕ) (both : RowSet)
    → holder_at before.marks page slot ≡ One holder kind.Add → holder ≢ row
    → ((other : ℕ) → other < ROWS → has_row both other ≡ cond (eqb other row) true (has_row (only holder) other))
    → ((p s : ℕ) → holder_at after.marks p s ≡ cond (eqb page p && eqb slot s) Adders (holder_at before.marks p s))
    → ((p s : ℕ) → rows_at after.adders p s
    ≡ cond (eqb page p && eqb slot s) both (rows_at before.adders p s))
    → Taken before after page slot row kind.Add no_hold
taken_shared before after page slot row holder both is apart says marks adders =
    let there = rows_at before.adders page slot in
    taken before after page slot row kind.Add no_hold (One holder kind.Add) Adders both is
    (λ other within ne. has_row-no_rows other)
    (sym (hold_one holder kind.Add there row
    ∙ ap (λ b. cond b (hold_with no_hold kind.Add) no_hold) (ne_eqb row holder (λ e. apart (sym e)))))
    marks adders (λ other within. with_adder (only holder) both row true other (says other within))

-- one transaction more adds
pub taken_joined : (before after : Claims) (page slot row : ℕ) (old new : RowSet) (had : Bool)
    → holder_at before.marks page slot ≡ Adders → old ≡ rows_at before.adders page slot → had ≡ has_row old row
    → ((other : ℕ) → other < ROWS → has_row new other ≡ cond (eqb other row) true (has_row old other))
    → ((p s : ℕ) → rows_at after.adders p s
    ≡ cond (eqb page p && eqb slot s) new (rows_at before.adders p s))
    → after.marks ≡ before.marks
    → Taken before after page slot row kind.Add (adds_hold had)
taken_joined before after page slot row old new had is there has says adders same =
    taken before after page slot row kind.Add (adds_hold had) Adders Adders new is
    (free-adders (rows_at before.adders page slot) row)
    (ap adds_hold has ∙ ap (λ s. adds_hold (has_row s row)) there
    ∙ sym (of_adders (rows_at before.adders page slot) row))
    (λ p s. ap (λ m. holder_at m p s) same ∙ same_holder before page slot p s
    ∙ ap (λ h. cond (eqb page p && eqb slot s) h (holder_at before.marks p s)) is)
    adders
    (λ other within. with_adder old new row true other (says other within)
    ∙ ap (λ s. cond (eqb other row) (adds_hold true) (hold_in (claim_of Adders s) other)) there)

-- the only adder sets
pub taken_alone : (before after : Claims) (page slot row : ℕ) (old : RowSet) (had : Bool)
    → holder_at before.marks page slot ≡ Adders → old ≡ rows_at before.adders page slot → had ≡ has_row old row
    → ((other : ℕ) → other < ROWS → other ≢ row → has_row old other ≡ false)
    → ((p s : ℕ) → holder_at after.marks p s
    ≡ cond (eqb page p && eqb slot s) (One row kind.Set) (holder_at before.marks p s))
    → after.adders ≡ before.adders
    → Taken before after page slot row kind.Set (adds_hold had)
taken_alone before after page slot row old had is there has alone marks same =
    let rows = rows_at before.adders page slot in
    let none = λ (other : ℕ) (within : other < ROWS) (ne : other ≢ row).
    ap (λ s. has_row s other) (sym there) ∙ alone other within ne in
    taken before after page slot row kind.Set (adds_hold had) Adders (One row kind.Set) rows is none
    (ap adds_hold has ∙ ap (λ s. adds_hold (has_row s row)) there ∙ sym (of_adders rows row))
    marks
    (λ p s. ap (λ a. rows_at a p s) same ∙ same_rows before page slot p s)
    (λ other within. from_alone rows row (adds_hold had) other (none other within))

-- ---- a slot is released

pub keeps-hold : (before : Claims) (page slot row : ℕ) (hold : Hold) → hold ≡ hold_at before page slot row
    → SetsHold before before page slot row hold
keeps-hold before page slot row hold is =
    sets-hold before before page slot row (holder_at before.marks page slot) (rows_at before.adders page slot) hold
    (same_holder before page slot) (same_rows before page slot)
    (λ other within. elim (cases_eq other row) [
      | inl same ↦
          ap (hold_at before page slot) same ∙ sym is
          ∙ sym (ap (λ b. cond b hold (hold_at before page slot other)) (eq-eqb other row same))
      | inr apart ↦ sym (ap (λ b. cond b hold (hold_at before page slot other)) (ne_eqb other row apart))
    ])

-- of a slot that one transaction holds
pub releases : (before after : Claims) (page slot row : ℕ) (hold : Hold) (held now : Holder)
    → held ≡ holder_at before.marks page slot → (held ≡ Adders → ⊥) → IsWeaker hold (hold_at before page slot row)
    → ((rows : RowSet) (other : ℕ) → other < ROWS
    → hold_in (claim_of now rows) other ≡ cond (eqb other row) hold no_hold)
    → ((p s : ℕ) → holder_at after.marks p s ≡ cond (eqb page p && eqb slot s) now (holder_at before.marks p s))
    → after.adders ≡ before.adders → SetsHold before after page slot row hold
releases before after page slot row hold held now is not_adders weaker says marks same =
    let rows = rows_at before.adders page slot in
    sets-hold before after page slot row now rows hold marks
    (λ p s. ap (λ a. rows_at a p s) same ∙ same_rows before page slot p s)
    (λ other within. says rows other within ∙ others held is not_adders other)
  where
    there : RowSet
    there = rows_at before.adders page slot

    kept : (h : Holder) → h ≡ holder_at before.marks page slot → (hold_in (claim_of h there) row).against_sets ≡ true
    kept h e = ap (λ (g : Holder). (hold_in (claim_of g there) row).against_sets) e ∙ weaker.than_some

    of_row : (holder : ℕ) (k : ChangeKind) → (hold_in (claim_of (One holder k) there) row).against_sets ≡ true
        → holder ≡ row
    of_row holder k some = elim (cases_eq row holder) [
      | inl e ↦ sym e
      | inr apart ↦ absurd (false≢true (sym (ap (λ (h : Hold). h.against_sets) (hold_one holder k there row
          ∙ ap (λ b. cond b (hold_with no_hold k) no_hold) (ne_eqb row holder apart))) ∙ some))
    ]

    others : (h : Holder) → h ≡ holder_at before.marks page slot → (h ≡ Adders → ⊥) → (other : ℕ)
        → cond (eqb other row) hold no_hold ≡ cond (eqb other row) hold (hold_at before page slot other)
    others Nobody e never other =
        absurd (false≢true (sym (has_row-no_rows row) ∙ kept Nobody e))
    others Adders e never other = absurd (never refl)
    others (One holder k) e never other =
        let own = of_row holder k (kept (One holder k) e) in
        again (eqb other row) hold (hold_with no_hold k) no_hold
        ∙ ap (cond (eqb other row) hold)
        (ap (λ n. cond (eqb other n) (hold_with no_hold k) no_hold) (sym own)
        ∙ sym (hold_one holder k there other)
        ∙ ap (λ (g : Holder). hold_in (claim_of g there) other) e)

-- of a slot that others may add to
pub leaves : (before after : Claims) (page slot row : ℕ) (hold : Hold) (new : RowSet)
    → holder_at before.marks page slot ≡ Adders → IsWeaker hold (hold_at before page slot row)
    → hold.against_sets ≡ false
    → ((other : ℕ) → other < ROWS
    → has_row new other ≡ cond (eqb other row) false (has_row (rows_at before.adders page slot) other))
    → ((p s : ℕ) → rows_at after.adders p s
    ≡ cond (eqb page p && eqb slot s) new (rows_at before.adders p s))
    → after.marks ≡ before.marks → SetsHold before after page slot row hold
leaves before after page slot row hold new is weaker none says adders same =
    let rows = rows_at before.adders page slot in
    let no_adds : hold.against_adds ≡ false =
    false_from_ne_true hold.against_adds (λ adds. false≢true (sym none ∙ weaker.sets adds)) in
    let hold_is : adds_hold false ≡ hold =
    ap₂ (λ a b. let h : Hold = record { against_sets = a; against_adds = b } in h) (sym none) (sym no_adds) in
    sets-hold before after page slot row Adders new hold
    (λ p s. ap (λ m. holder_at m p s) same ∙ same_holder before page slot p s
    ∙ ap (λ h. cond (eqb page p && eqb slot s) h (holder_at before.marks p s)) is)
    adders
    (λ other within. with_adder rows new row false other (says other within)
    ∙ ap (λ h. cond (eqb other row) h (hold_in (claim_of Adders rows) other)) hold_is
    ∙ ap (λ (h : Holder). cond (eqb other row) hold (hold_in (claim_of h rows) other)) (sym is))

-- it keeps out what it kept out with its last change
pub stays : (before : Claims) (page slot row : ℕ) (hold : Hold) → holder_at before.marks page slot ≡ Adders
    → IsWeaker hold (hold_at before page slot row) → hold.against_sets ≡ true → hold ≡ hold_at before page slot row
stays before page slot row hold is weaker some =
    let rows = rows_at before.adders page slot in
    let now : hold_at before page slot row ≡ adds_hold (has_row rows row) =
    ap (λ (h : Holder). hold_in (claim_of h rows) row) is ∙ of_adders rows row in
    let no_adds : hold.against_adds ≡ false = false_from_ne_true hold.against_adds
    (λ adds. false≢true (sym (ap (λ (h : Hold). h.against_adds) now) ∙ weaker.than_adds adds)) in
    ap₂ (λ a b. let h : Hold = record { against_sets = a; against_adds = b } in h)
    (some ∙ sym weaker.than_some ∙ ap (λ (h : Hold). h.against_sets) now) no_adds
    ∙ sym now

-- ---- the others who add

-- one beside this row
pub held-adders : (old rest : RowSet) (row : ℕ) → HasSome rest
    → ((other : ℕ) → other < ROWS → has_row rest other ≡ cond (eqb other row) false (has_row old other))
    → IsHeldByOther (claim_of Adders old) kind.Set row
held-adders old rest row some says =
    let there : cond (eqb some.row row) false (has_row old some.row) ≡ true =
    sym (says some.row some.within) ∙ some.there in
    let apart : some.row ≢ row = λ e.
    false≢true (sym (ap (λ b. cond b false (has_row old some.row)) (eq-eqb some.row row e)) ∙ there) in
    record {
      other = some.row;
      within = some.within;
      is_other = apart;
      held = sym (ap (λ b. cond b false (has_row old some.row)) (ne_eqb some.row row apart)) ∙ there;
    }

-- and none
pub none_beside : (old rest : RowSet) (row : ℕ) → rest ≡ no_rows
    → ((other : ℕ) → other < ROWS → has_row rest other ≡ cond (eqb other row) false (has_row old other))
    → (other : ℕ) → other < ROWS → other ≢ row → has_row old other ≡ false
none_beside old rest row none says other within apart =
    sym (ap (λ b. cond b false (has_row old other)) (ne_eqb other row apart)) ∙ sym (says other within)
    ∙ ap (λ s. has_row s other) none ∙ has_row-no_rows other

-- a transaction that keeps nothing out of a slot that nobody holds
pub none_out : (row other : ℕ) (hold : Hold) → no_hold ≡ hold
    → hold_in no_claim other ≡ cond (eqb other row) hold no_hold
none_out row other hold none =
    hold_in-no_claim other ∙ both (eqb other row)
    ∙ ap (λ h. cond (eqb other row) h no_hold) none
  where
    both : (b : Bool) → no_hold ≡ cond b no_hold no_hold
    both true = refl
    both false = refl

-- ---- a slot of which a transaction keeps something out is somebody's

pub not_free : (before : Claims) (page slot row : ℕ) (hold : Hold) → IsWeaker hold (hold_at before page slot row)
    → holder_at before.marks page slot ≡ Nobody → ⊥
not_free before page slot row hold weaker none =
    false≢true (sym (ap (λ (h : Hold). h.against_sets) (ap (λ (h : Holder). hold_in
    (claim_of h (rows_at before.adders page slot)) row) none ∙ hold_in-no_claim row)) ∙ weaker.than_some)

pub not_empty : (before : Claims) (page slot row : ℕ) (hold : Hold) → holder_at before.marks page slot ≡ Adders
    → IsWeaker hold (hold_at before page slot row) → rows_at before.adders page slot ≡ no_rows → ⊥
not_empty before page slot row hold is weaker none =
    false≢true (sym (ap (λ (h : Hold). h.against_sets) (ap (λ (h : Holder). hold_in
    (claim_of h (rows_at before.adders page slot)) row) is ∙ of_adders (rows_at before.adders page slot) row)
    ∙ ap (λ s. has_row s row) none ∙ has_row-no_rows row) ∙ weaker.than_some)
