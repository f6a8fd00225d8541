use Rattle.std.proofs.Common.{◌≡◌, ℕ, false, refl, subst}
use Rattle.std.proofs.lemmas.Bool.{false≢true}
use Rattle.std.specs.Prelude.{Option, Some, None, IsSome, is_none}
use Rattle.page_core.specs.declared.page.Page.{Page}
use Rattle.buffer_pool.specs.Pool.{state_at, unwritten}
use Rattle.buffer_pool.proofs.laws.dirty_pages_are_resident.Goals as goal

dirty_by : (o : Option ℕ) → IsSome o → is_none o ≡ false
dirty_by None some = absurd (false≢true some)
dirty_by (Some x) some = refl

pub returns-clause-dirty : goal.returns-clause-dirty
returns-clause-dirty g c = λ log pool number of there some.
    of.held number there (dirty_by (state_at pool number).rec_lsn some)

pub returns-clause-writing : goal.returns-clause-writing
returns-clause-writing g c = λ log pool number of there some.
    noted (state_at pool number).rec_lsn (λ none.
    false≢true (subst (λ (o : Option Page). IsSome o) ((of.states number unwritten there).idle none) some))
  where
    noted : (o : Option ℕ) → (o ≡ None → ⊥) → IsSome o
    noted None some = absurd (some refl)
    noted (Some x) some = refl
