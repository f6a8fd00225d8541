-- Room for a change of a slot.
use Rattle.std.proofs.Common.{◌≡◌, ◌∙◌, ◌||◌, ℕ, Bool, true, false, sym, ap}
use Rattle.std.proofs.lemmas.Bool.{and_from, and_left, and_parts, and_right, false≢true, or_from, or_left, or_right}
use Rattle.slot_claims.specs.declared.claims.Claims.{Claims}
use Rattle.slot_claims.specs.declared.holder_byte.Holder.{Holder}
use Rattle.slot_claims.specs.Adders.{has_set_at}
use Rattle.slot_claims.specs.Claims.{has_room, is_alone}
use Rattle.slot_claims.specs.Marks.{has_mark, holder_at}

-- ---- what room is good for

pub room_marked : (claims : Claims) (page slot row : ℕ) → has_room claims page slot row ≡ true
    → has_mark claims.marks page slot ≡ true
unfolding has_room
room_marked claims page slot row room = (and_parts (has_mark claims.marks page slot) _ room).0

pub room_set : (claims : Claims) (page slot row : ℕ) (held : Holder) → has_room claims page slot row ≡ true
    → holder_at claims.marks page slot ≡ held → is_alone held row ≡ false
    → has_set_at claims.adders page slot ≡ true
unfolding has_room
room_set claims page slot row held room is beside =
    rest (is_alone (holder_at claims.marks page slot) row) (has_set_at claims.adders page slot)
    (and_parts (has_mark claims.marks page slot) _ room).1 (ap (λ h. is_alone h row) is ∙ beside)
  where
    rest : (a b : Bool) → (a || b) ≡ true → a ≡ false → b ≡ true
    rest true b some none = absurd (false≢true (sym none))
    rest false b some none = some

-- ---- room that there is

module _ (claims : Claims) (page slot row : ℕ) (marked : has_mark claims.marks page slot ≡ true) where
  pub room_alone : (held : Holder) → holder_at claims.marks page slot ≡ held → is_alone held row ≡ true
      → has_room claims page slot row ≡ true
  unfolding has_room
  room_alone held is alone =
      and_from (has_mark claims.marks page slot) _ marked (or_left _ _ (ap (λ h. is_alone h row) is ∙ alone))

  pub room_beside : has_set_at claims.adders page slot ≡ true → has_room claims page slot row ≡ true
  unfolding has_room
  room_beside set =
      and_from (has_mark claims.marks page slot) _ marked
      (or_right (is_alone (holder_at claims.marks page slot) row) _ set)

-- ---- room that there is not

pub no_mark_no_room : (claims : Claims) (page slot row : ℕ) → has_mark claims.marks page slot ≡ false
    → has_room claims page slot row ≡ false
unfolding has_room
no_mark_no_room claims page slot row none = and_left (has_mark claims.marks page slot) _ none

pub no_set_no_room : (claims : Claims) (page slot row : ℕ) (held : Holder)
    → holder_at claims.marks page slot ≡ held → is_alone held row ≡ false
    → has_set_at claims.adders page slot ≡ false → has_room claims page slot row ≡ false
unfolding has_room
no_set_no_room claims page slot row held is beside none =
    and_right (has_mark claims.marks page slot) _
    (or_from (is_alone (holder_at claims.marks page slot) row) _ (ap (λ h. is_alone h row) is ∙ beside) none)
