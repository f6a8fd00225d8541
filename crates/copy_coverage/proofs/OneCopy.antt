-- One of the copies of a volume changes, and the others stay.
use Rattle.std.proofs.Common.{◌≡◌, ℕ, zero, suc, ◌+◌, ◌-◌, ◌<◌, ◌≤◌, List, [], ◌∷◌, ◌++◌, length, get_or, set, reverse, refl}
use Rattle.std.proofs.Common.{sym, ap, subst, ◌∙◌, arith, inl, inr}
use Rattle.std.specs.Prelude.{Some}
use Rattle.std.proofs.Math.ListN.{get_or-eq_default}
use Rattle.std.proofs.lemmas.Bool.{cases_eq, cases_lt}
use Rattle.std.proofs.lemmas.List.{get_or-set_other, get_or-set_same, get_or_append_left, get_or_push, length-append}
use Rattle.page_core.specs.declared.page.Page.{Page}
use Rattle.log_records.specs.Coverage.{Covers}
use Rattle.log_records.specs.Log.{Log}
use Rattle.copy_vault.specs.declared.copy_id.CopyKind.{CopyKind}
use Rattle.copy_vault.specs.declared.copy_id.CopyKind.TheVariants.{Full, Inc}
use Rattle.copy_vault.specs.declared.copy_id.TheConstants.{MAX_COPIES}
use Rattle.copy_vault.specs.Chain.{content}
use Rattle.page_decisions.specs.Decisions.{AreDecidedBelow}
use Rattle.copy_vault.specs.Copy.{CopyView}
use Rattle.copy_vault.specs.Vault.{CopyState, HasParent, complete, dropped, reading, state_of, with_state}
use Rattle.copy_vault.proofs.Public.{GoesOn, goes_on_push, goes_on_set}
use Rattle.copy_coverage.specs.Copied.{AreCopied, IsCopyOf, IsCovered, IsDecidedIn, StandsOn, copy_in}

-- of these copies, one is in another state now
pub record IsChanged (old new : List CopyState) (id : ℕ) (state : CopyState) : Type 0 where
  pub here : state_of new id ≡ state
  pub others : (j : ℕ) → ¬ (j ≡ id) → state_of new j ≡ state_of old j
  pub on : GoesOn old new

-- a copy that is there now is as the others are
pub record MayStand (log : Log) (forced_end : ℕ) (stored : List Page) (copies : List CopyState) (id : ℕ)
    (state : CopyState) : Type 0 where
  pub each : (copy : CopyView) → copy_in state ≡ Some copy → IsCopyOf log forced_end copies id copy
  pub decided : (copy : CopyView) → state ≡ complete copy → AreDecidedBelow (length copy.pages) copy.pages
  pub read : (copy : CopyView) → state ≡ reading copy → (p : ℕ) (d : Page) → p < length stored
      → Covers log.records p (get_or stored p d) copy.redo
  pub covered : (copy : CopyView) (older : List CopyView) → copy_in state ≡ Some copy
      → StandsOn copies copy.kind older → (p : ℕ) → IsDecidedIn copy.pages p
      → IsCovered log.records forced_end copy.redo p (content (reverse (copy ∷ older)) p)

parent_on : (old new : List CopyState) (id : ℕ) (kind : CopyKind) → GoesOn old new → HasParent old id kind
    → HasParent new id kind
parent_on old new id Full on h = tt
parent_on old new id (Inc parent) on h = record {
  before = h.before;
  copy = h.copy;
  is_complete = on.stays parent h.copy h.is_complete;
}

pub complete_same : (a b : CopyView) → complete a ≡ complete b → a ≡ b
complete_same a b e = cc

-- what a copy stands on now, it stood on before
stood_on : (old new : List CopyState) → GoesOn old new
    → ((id : ℕ) (copy : CopyView) → copy_in (state_of old id) ≡ Some copy → HasParent old id copy.kind)
    → (id : ℕ) (kind : CopyKind) (older : List CopyView) → HasParent old id kind → StandsOn new kind older
    → StandsOn old kind older
stood_on old new on each id Full older h is = is
stood_on old new on each id (Inc parent) [] h is = is
stood_on old new on each id (Inc parent) (copy ∷ older) h is =
    let same : h.copy ≡ copy = complete_same h.copy copy (sym (on.stays parent h.copy h.is_complete) ∙ is.0) in
    let was : state_of old parent ≡ complete copy = h.is_complete ∙ ap complete same in (
      was,
      stood_on old new on each parent copy.kind older (each parent copy (ap copy_in was)) is.1,
    )

pub copied_changed : (log : Log) (f : ℕ) (stored : List Page) (old new : List CopyState) (id : ℕ)
    (state : CopyState) → IsChanged old new id state → length new ≤ MAX_COPIES → AreCopied log f stored old
    → MayStand log f stored old id state → AreCopied log f stored new
copied_changed log f stored old new id state changed few are stands = record {
  few = few;
  each = λ j copy is. elim (cases_eq j id) [
    | inl same ↦
        let now : copy_in state ≡ Some copy = ap copy_in (sym changed.here ∙ ap (state_of new) (sym same)) ∙ is in
        let here = stands.each copy now in
        record {
          named = here.named ∙ sym same;
          noted = here.noted;
          whole = here.whole;
          early = here.early;
          parent = subst (λ (k : ℕ). HasParent new k copy.kind) (sym same)
              (parent_on old new id copy.kind changed.on here.parent);
          in_place = here.in_place;
          keeps = here.keeps;
        }
    | inr other ↦
        let here = are.each j copy (ap copy_in (sym (changed.others j other)) ∙ is) in
        record {
          named = here.named;
          noted = here.noted;
          whole = here.whole;
          early = here.early;
          parent = parent_on old new j copy.kind changed.on here.parent;
          in_place = here.in_place;
          keeps = here.keeps;
        }
  ];
  decided = λ j copy is. elim (cases_eq j id) [
    | inl same ↦ stands.decided copy (sym changed.here ∙ ap (state_of new) (sym same) ∙ is)
    | inr other ↦ are.decided j copy (sym (changed.others j other) ∙ is)
  ];
  read = λ j copy is p d lt. elim (cases_eq j id) [
    | inl same ↦ stands.read copy (sym changed.here ∙ ap (state_of new) (sym same) ∙ is) p d lt
    | inr other ↦ are.read j copy (sym (changed.others j other) ∙ is) p d lt
  ];
  covered = λ j copy older is on p done. elim (cases_eq j id) [
    | inl same ↦
        let now : copy_in state ≡ Some copy = ap copy_in (sym changed.here ∙ ap (state_of new) (sym same)) ∙ is in
        stands.covered copy older now
        (stood_on old new changed.on (λ i c h. (are.each i c h).parent) id copy.kind older
        (stands.each copy now).parent on) p done
    | inr other ↦
        let was : copy_in (state_of old j) ≡ Some copy = ap copy_in (sym (changed.others j other)) ∙ is in
        are.covered j copy older was
        (stood_on old new changed.on (λ i c h. (are.each i c h).parent) j copy.kind older
        (are.each j copy was).parent on) p done
  ];
}

-- ---- which copy changes

pub opened_changes : (copies : List CopyState) (state : CopyState)
    → IsChanged copies (copies ++ state ∷ []) (length copies + 1) state
opened_changes copies state = record {
  here = there (length copies + 1) refl;
  others = same;
  on = goes_on_push copies state;
}
  where
    there : (id : ℕ) → id ≡ length copies + 1 → state_of (copies ++ state ∷ []) id ≡ state
    there zero e = absurd (omega arith)
    there (suc k) e =
        let at : k ≡ length copies = omega arith in
        get_or_push copies state dropped k (sym at)

    same : (j : ℕ) → ¬ (j ≡ length copies + 1) → state_of (copies ++ state ∷ []) j ≡ state_of copies j
    same zero off = refl
    same (suc j) off = elim (cases_lt j (length copies)) [
      | inl lt ↦ get_or_append_left copies (state ∷ []) dropped j lt
      | inr le ↦ elim (cases_eq j (length copies)) [
        | inl at ↦ absurd (off (omega arith))
        | inr other ↦
            get_or-eq_default (copies ++ state ∷ []) dropped (omega (arith, length-append copies (state ∷ [])))
            ∙ sym (get_or-eq_default copies dropped le)
      ]
    ]

not_reading : (copy : CopyView) → ¬ (dropped ≡ reading copy)
not_reading copy e = cc

pub set_changes : (copies : List CopyState) (id : ℕ) (was : CopyView) (state : CopyState)
    → state_of copies id ≡ reading was → IsChanged copies (with_state copies id state) id state
set_changes copies zero was state is = absurd (not_reading was is)
set_changes copies (suc k) was state is =
    let back : suc k - 1 ≡ k = omega arith in
    subst (λ (n : ℕ). IsChanged copies (set copies n state) (suc k) state) (sym back) (record {
      here = get_or-set_same copies k state dropped there;
      others = others;
      on = goes_on_set copies k state (λ copy e. not_complete was copy (sym is ∙ e));
    })
  where
    not_complete : (was copy : CopyView) → ¬ (reading was ≡ complete copy)
    not_complete was copy e = cc

    there : k < length copies
    there = elim (cases_lt k (length copies)) [
      | inl lt ↦ lt
      | inr le ↦ absurd (not_reading was (sym (get_or-eq_default copies dropped le) ∙ is))
    ]

    others : (j : ℕ) → ¬ (j ≡ suc k) → state_of (set copies k state) j ≡ state_of copies j
    others zero off = refl
    others (suc j) off = get_or-set_other copies k j state dropped (λ e. off (ap suc e))
