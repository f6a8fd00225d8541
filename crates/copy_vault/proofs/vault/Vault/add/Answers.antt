use Rattle.std.proofs.Common.{◌≡◌, ◌∙◌, ◌-◌, ◌+◌, List, [], ◌∷◌, ◌++◌, length, map, replicate, ap, sym, subst, arith, false}
use Rattle.std.proofs.lemmas.List.{length-map}
use Rattle.copy_vault.specs.declared.vault.VaultEntry.{VaultEntry}
use Rattle.copy_vault.specs.declared.vault.VaultEntry.TheVariants as entry
use Rattle.copy_vault.specs.Added.{lacks_parent}
use Rattle.copy_vault.specs.Copy.{CopyView}
use Rattle.copy_vault.specs.Vault.{CopyState, IsVault, VaultView, complete, dropped, state_in}
use Rattle.copy_vault.proofs.Added.{states_added, vault_added}
use Rattle.copy_vault.proofs.vault.Vault.add.Goals as goal

-- what the entries are then
entries_now : (c : goal.After-push_reserved) → c.push_reserved.new.self.items
    ≡ (c.self.inside.entries.items ++ replicate (c.skipped.inside.0 - 1 - c.len.result) entry.Dropped)
    ++ entry.Complete c.args.copy ∷ []
entries_now c =
    let n = c.skipped.inside.0 - 1 - c.len.result in
    c.push_reserved.ensures.items
    ∙ ap (λ (es : List VaultEntry). es ++ entry.Complete c.new.result ∷ [])
    (c.push_dropped.ensures.items
    ∙ ap (λ (es : List VaultEntry). es ++ replicate n entry.Dropped) c.reserve.ensures.items)
    ∙ ap (λ (copy : CopyView). (c.self.inside.entries.items ++ replicate n entry.Dropped) ++ entry.Complete copy ∷ [])
    c.new.ensures

pub invariant_of-self-2 : goal.invariant_of-self-2
invariant_of-self-2 c =
    let entries = c.self.inside.entries.items in
    let copy = c.args.copy in
    let n = c.skipped.inside.0 - 1 - c.len.result in
    let same : map state_in entries ≡ c.args.self.now.copies = ap (λ (v : VaultView). v.copies) c.self.view_is in
    let place : copy.id ≡ length entries + n + 1 = omega (
      arith,
      c.id.ensures,
      c.skipped.view_is,
      c.len.ensures,
      c.in_default.ensures.behind,
      ap length same,
      length-map entries state_in,
    ) in
    let has : lacks_parent (map state_in entries) copy.kind ≡ false =
    subst (λ (cs : List CopyState). lacks_parent cs copy.kind ≡ false) (sym same) c.in_default.ensures.parent in
    subst IsVault (sym (entries_now c))
    (vault_added entries n copy c.self.invariant place (omega (arith, c.in_default.ensures.few)) has)

pub returns-clause-added : goal.returns-clause-added
returns-clause-added c =
    let entries = c.self.inside.entries.items in
    let copy = c.args.copy in
    let n = c.skipped.inside.0 - 1 - c.len.result in
    let copies = c.args.self.now.copies in
    let same : map state_in entries ≡ copies = ap (λ (v : VaultView). v.copies) c.self.view_is in
    let count : n ≡ copy.id - 1 - length copies = omega (
      arith,
      c.id.ensures,
      c.skipped.view_is,
      c.len.ensures,
      ap length same,
      length-map entries state_in,
    ) in
    ap (map state_in) (entries_now c) ∙ states_added entries n copy
    ∙ ap (λ (cs : List CopyState). (cs ++ replicate n dropped) ++ complete copy ∷ []) same
    ∙ ap (λ k. (copies ++ replicate k dropped) ++ complete copy ∷ []) count
