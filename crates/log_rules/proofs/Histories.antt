-- Linked logs, one record after another.
use Rattle.std.proofs.Common.{◌≡◌, ℕ, zero, suc, ◌<◌, ◌≤◌, List, [], ◌∷◌, ◌++◌, length, get_or, take, take-suc, sym}
use Rattle.std.proofs.Common.{refl, subst, subst₂, inl, inr, arith}
use Rattle.std.proofs.lemmas.Bool.{cases_lt}
use Rattle.std.proofs.lemmas.List.{get_or-take, get_or_append_left, get_or_push, length-take, length_push}
use Rattle.std.proofs.lemmas.List.{take-append-le, take-take, take_all, take_at}
use Rattle.log_records.specs.declared.record.Record.{Record}
use Rattle.log_records.specs.declared.record.Record.TheVariants.{Begin}
use Rattle.log_rules.specs.Linked.{IsLinked, MayFollow}

-- ---- prefixes

pub linked_none : IsLinked []
linked_none i d lt = absurd (omega arith)

pub linked-take : (rs : List Record) → IsLinked rs → (n : ℕ) → IsLinked (take n rs)
linked-take rs linked n i d lt =
    let long = length-take n rs in
    let short : i < n = omega (arith, long) in
    let within : i < length rs = omega (arith, long) in
    let before : i ≤ n = omega arith in
    subst₂ MayFollow (sym (take-take i n rs before)) (sym (get_or-take n rs i d short)) (linked i d within)

pub linked_push : (rs : List Record) (r : Record) → IsLinked rs → MayFollow rs r → IsLinked (rs ++ r ∷ [])
linked_push rs r linked may i d lt = elim (cases_lt i (length rs)) [
  | inl below ↦
      let within : i ≤ length rs = omega arith in
      subst₂
      MayFollow
      (sym (take-append-le i rs (r ∷ []) within)) (sym (get_or_append_left rs (r ∷ []) d i below)) (linked i d below)
  | inr above ↦
      let last : length rs ≡ i = omega (arith, length_push rs r) in
      subst₂ MayFollow (sym (take_at rs (r ∷ []) i last)) (sym (get_or_push rs r d i last)) may
]

pub linked_pop : (rs : List Record) (r : Record) → IsLinked (rs ++ r ∷ []) → IsLinked rs × MayFollow rs r
linked_pop rs r linked =
    let whole = take_at rs (r ∷ []) (length rs) refl in
    let here = linked (length rs) r (omega (arith, length_push rs r)) in
    let last = get_or_push rs r r (length rs) refl in
    (subst IsLinked whole (linked-take (rs ++ r ∷ []) linked (length rs)), subst₂ MayFollow whole last here)

-- ---- induction

-- what holds of no records, and of one more behind a linked log of which it holds, holds of each linked log
pub along_linked : (P : List Record → Type 0) → P []
    → ((rs : List Record) (r : Record) → IsLinked rs → MayFollow rs r → P rs → P (rs ++ r ∷ []))
    → (rs : List Record) → IsLinked rs → P rs
along_linked P none more rs linked = subst P (take_all (length rs) rs (omega arith)) (up_to (length rs) (omega arith))
  where
    up_to : (n : ℕ) → n ≤ length rs → P (take n rs)
    up_to zero le = none
    up_to (suc n) le =
        let lt : n < length rs = omega arith in
        let r = Begin 0 0 in
        let so_far = linked-take rs linked n in
        let after = more (take n rs) (get_or rs n r) so_far (linked n r lt) (up_to n (omega arith)) in
        subst P (sym (take-suc rs n r lt)) after
