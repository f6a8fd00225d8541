-- The copies that one stands on.
use Rattle.std.proofs.Common.{◌≡◌, ◌∙◌, ℕ, ◌+◌, ◌-◌, ◌<◌, ◌≤◌, List, [], ◌∷◌, ◌++◌, ap, append_assoc, arith, refl, suc, sym, zero}
use Rattle.std.specs.Prelude.{None, Option, Some}
use Rattle.std.proofs.lemmas.List.{append-nil}
use Rattle.copy_vault.specs.Vault.{CopyState, complete_of, state_of}
use Rattle.database_backup.specs.Backups.{chain_down, parent_of_copy}

pub no_more : (copies : List CopyState) (n : ℕ) → chain_down copies n None ≡ []
no_more copies zero = refl
no_more copies (suc n) = refl

-- one more is taken
pub one_more : (copies : List CopyState) (most k id : ℕ) (taken : List ℕ) → k < most
    → (taken ++ id ∷ []) ++ chain_down copies (most - (k + 1)) (parent_of_copy (complete_of (state_of copies id)))
    ≡ taken ++ chain_down copies (most - k) (Some id)
one_more copies most k id taken lt =
    let left : most - k ≡ suc (most - (k + 1)) = omega (arith, lt) in
    append_assoc taken (id ∷ []) _ ∙ ap (λ (n : ℕ). taken ++ chain_down copies n (Some id)) (sym left)

-- all are taken
pub all_taken : (copies : List CopyState) (most k : ℕ) (next : Option ℕ) (taken all : List ℕ) → most ≤ k
    → taken ++ chain_down copies (most - k) next ≡ all → taken ≡ all
all_taken copies most k next taken all le is =
    let left : most - k ≡ 0 = omega (arith, le) in
    sym (append-nil taken) ∙ ap (λ (n : ℕ). taken ++ chain_down copies n next) (sym left) ∙ is

pub none_left : (copies : List CopyState) (n : ℕ) (taken all : List ℕ) → taken ++ chain_down copies n None ≡ all
    → taken ≡ all
none_left copies n taken all is =
    sym (append-nil taken) ∙ ap (λ (more : List ℕ). taken ++ more) (sym (no_more copies n)) ∙ is
