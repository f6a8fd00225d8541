-- Copies of an older life that a vault takes.
use Rattle.std.proofs.Common.{◌≡◌, ℕ, zero, suc, ◌+◌, ◌-◌, ◌<◌, ◌≤◌, List, [], ◌∷◌, ◌++◌, length, get_or, map, replicate}
use Rattle.std.proofs.Common.{refl, sym, ap, subst, ◌∙◌, arith, inl, inr, true, false, true≢false}
use Rattle.std.specs.Prelude.{is_none}
use Rattle.std.proofs.lemmas.Bool.{cases_lt}
use Rattle.std.proofs.lemmas.List.{append-nil, append_assoc, get_or_append_left, get_or_past, length-map, length-append}
use Rattle.std.proofs.lemmas.List.{length-replicate, map-append}
use Rattle.copy_vault.specs.declared.copy_id.CopyKind.{CopyKind}
use Rattle.copy_vault.specs.declared.copy_id.CopyKind.TheVariants.{Full, Inc}
use Rattle.copy_vault.specs.declared.vault.VaultEntry.{VaultEntry}
use Rattle.copy_vault.specs.declared.vault.VaultEntry.TheVariants as entry
use Rattle.copy_vault.specs.Added.{lacks_parent}
use Rattle.copy_vault.specs.Copy.{CopyView}
use Rattle.copy_vault.specs.Vault.{CopyState, HasParent, IsParent, IsVault, complete, complete_of, dropped, reading, state_in}
use Rattle.copy_vault.proofs.Vaults.{vault_push}

-- ---- its parent

parent_found : (copies more : List CopyState) (k id : ℕ) (s : CopyState) → k < length copies → length copies < id
    → get_or copies k dropped ≡ s → is_none (complete_of s) ≡ false → IsParent (copies ++ more) (suc k) id
parent_found copies more k id (complete copy) lt after is has = record {
  before = omega (arith, lt, after);
  copy = copy;
  is_complete = get_or_append_left copies more dropped k lt ∙ is;
}
parent_found copies more k id (reading copy) lt after is has = absurd (true≢false has)
parent_found copies more k id dropped lt after is has = absurd (true≢false has)

pub parent_there : (copies more : List CopyState) (kind : CopyKind) (id : ℕ) → length copies < id
    → lacks_parent copies kind ≡ false → HasParent (copies ++ more) id kind
parent_there copies more Full id after has = tt
parent_there copies more (Inc zero) id after has = absurd (true≢false has)
parent_there copies more (Inc (suc k)) id after has = elim (cases_lt k (length copies)) [
  | inl lt ↦ parent_found copies more k id (get_or copies k dropped) lt after refl has
  | inr past ↦
      let none : get_or copies k dropped ≡ dropped = get_or_past copies k dropped past in
      let is : is_none (complete_of (get_or copies k dropped)) ≡ true = ap (λ (s : CopyState). is_none (complete_of s)) none in
      absurd (true≢false (sym is ∙ has))
]

-- ---- the entries

skipped : (entries : List VaultEntry) (n : ℕ) → IsVault entries → length entries + n ≤ 1024
    → IsVault (entries ++ replicate n entry.Dropped)
skipped entries zero vault few = subst IsVault (sym (append-nil entries)) vault
skipped entries (suc n) vault few =
    let next : List VaultEntry = entries ++ entry.Dropped ∷ [] in
    let long = length-append entries (entry.Dropped ∷ []) in
    subst IsVault (append_assoc entries (entry.Dropped ∷ []) (replicate n entry.Dropped))
    (skipped next n (vault_push entries entry.Dropped vault (omega (arith, few)) tt) (omega (arith, few, long)))

pub vault_added : (entries : List VaultEntry) (n : ℕ) (copy : CopyView) → IsVault entries
    → copy.id ≡ length entries + n + 1 → copy.id ≤ 1024 → lacks_parent (map state_in entries) copy.kind ≡ false
    → IsVault ((entries ++ replicate n entry.Dropped) ++ entry.Complete copy ∷ [])
vault_added entries n copy vault is few has =
    let before : List VaultEntry = entries ++ replicate n entry.Dropped in
    let long : length before ≡ length entries + n =
    length-append entries (replicate n entry.Dropped)
    ∙ ap (λ (k : ℕ). length entries + k) (length-replicate n entry.Dropped) in
    let states : map state_in before ≡ map state_in entries ++ map state_in (replicate n entry.Dropped) =
    map-append state_in entries (replicate n entry.Dropped) in
    let after : length (map state_in entries) < copy.id = omega (arith, is, length-map entries state_in) in
    let parent : HasParent (map state_in before) copy.id copy.kind =
    subst (λ (cs : List CopyState). HasParent cs copy.id copy.kind) (sym states)
    (parent_there (map state_in entries) (map state_in (replicate n entry.Dropped)) copy.kind copy.id after has) in
    let place : copy.id ≡ length before + 1 = omega (arith, is, long) in
    vault_push before (entry.Complete copy) (skipped entries n vault (omega (arith, is, few)))
    (omega (arith, is, few, long)) (record {
      id_is = place;
      parent = subst (λ (k : ℕ). HasParent (map state_in before) k copy.kind) place parent;
    })

-- ---- their states

map_dropped : (n : ℕ) → map state_in (replicate n entry.Dropped) ≡ replicate n dropped
map_dropped zero = refl
map_dropped (suc n) = ap (λ (cs : List CopyState). dropped ∷ cs) (map_dropped n)

pub states_added : (entries : List VaultEntry) (n : ℕ) (copy : CopyView)
    → map state_in ((entries ++ replicate n entry.Dropped) ++ entry.Complete copy ∷ [])
    ≡ map state_in entries ++ replicate n dropped ++ complete copy ∷ []
states_added entries n copy =
    map-append state_in (entries ++ replicate n entry.Dropped) (entry.Complete copy ∷ [])
    ∙ ap (λ (cs : List CopyState). cs ++ complete copy ∷ [])
    (map-append state_in entries (replicate n entry.Dropped)
    ∙ ap (λ (cs : List CopyState). map state_in entries ++ cs) (map_dropped n))
