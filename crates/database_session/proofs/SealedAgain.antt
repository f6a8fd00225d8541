-- A copy that is made complete once more.
use Rattle.std.proofs.Common.{ℕ, ◌≡◌, ◌≢◌, ap, inl, inr, refl, subst, sym, ◌∙◌}
use Rattle.std.specs.Prelude.{Err, None, Ok, Option, Some}
use Rattle.std.specs.Option.{option_map}
use Rattle.copy_vault.specs.Vault.{CopyState, complete, complete_of, dropped, reading, seal_refusal, state_of, taken_in}
use Rattle.engine_calls.specs.Refusal.{of_vault}
use Rattle.engine_calls.specs.declared.event.Answer.{Answer}
use Rattle.engine_calls.specs.declared.event.Answer.TheVariants.{Sealed}
use Rattle.engine_calls.specs.declared.event.Event.TheVariants.{Seal}
use Rattle.engine_calls.specs.declared.refusal.Refusal.{Refusal}
use Rattle.engine_calls.specs.declared.refusal.Refusal.TheVariants.{CopyNotOpen}
use Rattle.engine_rules.specs.EngineState.{EngineState}
use Rattle.engine_rules.specs.Step.{Step}
use Rattle.page_decisions.specs.Decisions.{taken_count}
use Rattle.copy_vault.specs.Copy.{CopyView}
use Rattle.database_session.specs.MadeFiles.{IsSealedAgain}
use Rattle.session_lines.specs.Said.{IsAnswerOr}
use Rattle.session_lines.specs.declared.said.Said.{Said}

abbrev IsThere : {T : Type 0} → Option T → Type 0
IsThere None = ⊥
IsThere (Some it) = Unit {0}

abbrev or_not_open : Option Refusal → Refusal
or_not_open None = CopyNotOpen
or_not_open (Some why) = why

if_complete : (state : CopyState) (said : Said)
    → ((copy : CopyView) → state ≡ complete copy → IsAnswerOr (Sealed (taken_count copy.pages)) said)
    → IsSealedAgain state said
if_complete (complete copy) said each = each copy refl
if_complete (reading copy) said each = tt
if_complete dropped said each = tt

-- a copy that is complete is not open
not_open : (state : CopyState) (copy : CopyView) → state ≡ complete copy
    → option_map of_vault (seal_refusal state) ≡ Some CopyNotOpen
not_open state copy is =
    subst (λ (it : CopyState). option_map of_vault (seal_refusal it) ≡ Some CopyNotOpen) (sym is) refl

module _ (s new : EngineState) (id : ℕ) (said : Said) where
  pub again_sealed : (answer : Answer) → Step s (Seal id) (Ok answer) new → IsSealedAgain (state_of s.copies id) said
  again_sealed answer step = if_complete (state_of s.copies id) said (λ copy is.
      absurd (subst IsThere (sym (not_open (state_of s.copies id) copy is) ∙ step.0) tt))

  same : Step s (Seal id) (Err CopyNotOpen) new → new ≡ s
  same step = elim step [
    | inl refused ↦ refused.1
    | inr failed ↦ absurd failed.1
  ]

  pub again_placed : (taken : ℕ) → Step s (Seal id) (Err CopyNotOpen) new → taken ≡ taken_in (state_of new.copies id)
      → IsAnswerOr (Sealed taken) said → IsSealedAgain (state_of s.copies id) said
  again_placed taken step is_taken says = if_complete (state_of s.copies id) said (λ copy is.
      subst (λ (count : ℕ). IsAnswerOr (Sealed count) said)
      (is_taken ∙ ap (λ (it : EngineState). taken_in (state_of it.copies id)) (same step) ∙ ap taken_in is) says)

  pub again_nowhere : Step s (Seal id) (Err CopyNotOpen) new → complete_of (state_of new.copies id) ≡ None
      → IsSealedAgain (state_of s.copies id) said
  again_nowhere step none = if_complete (state_of s.copies id) said (λ copy is.
      absurd (subst IsThere (ap complete_of (sym is) ∙ ap (λ (it : EngineState). complete_of (state_of it.copies id))
      (sym (same step)) ∙ none) tt))

  pub again_refused : (why : Refusal) → Step s (Seal id) (Err why) new → why ≢ CopyNotOpen
      → IsSealedAgain (state_of s.copies id) said
  again_refused why step other = if_complete (state_of s.copies id) said (λ copy is.
      let refused = not_open (state_of s.copies id) copy is in
      absurd (elim step [
        | inl first ↦ other (sym (ap or_not_open (sym refused ∙ first.0)))
        | inr failed ↦ subst IsThere (sym refused ∙ failed.0) tt
      ]))

abbrev taken_of : Option CopyView → ℕ
taken_of None = 0
taken_of (Some copy) = taken_count copy.pages

-- how many pages a complete copy has
pub taken_by : (state : CopyState) (copy : CopyView) → Some copy ≡ complete_of state
    → taken_count copy.pages ≡ taken_in state
taken_by (complete it) copy is = ap taken_of is
taken_by (reading it) copy is = absurd (subst IsThere is tt)
taken_by dropped copy is = absurd (subst IsThere is tt)
