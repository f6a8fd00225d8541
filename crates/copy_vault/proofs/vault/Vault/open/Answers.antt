use Rattle.std.proofs.Common.{◌≡◌, ◌<◌, ◌+◌, ℕ, List, length, map, ap, sym, subst, arith, ◌∙◌}
use Rattle.std.proofs.lemmas.List.{length-map}
use Rattle.copy_vault.specs.Reading.{ReadingView}
use Rattle.copy_vault.specs.declared.vault.VaultEntry.TheVariants as entry
use Rattle.copy_vault.specs.Vault.{CopyState, VaultView, HasParent, since_of, state_in}
use Rattle.copy_vault.proofs.Vaults.{vault_push, kept_new}
use Rattle.copy_vault.proofs.vault.Vault.open.Goals as goal

pub invariant_of-self-2 : goal.invariant_of-self-2
invariant_of-self-2 c =
    let entries = c.self.inside.entries.items in
    let it : ReadingView = c.in_ok-new.field-0 in
    let kind = c.args.kind in
    let same : map state_in entries ≡ c.args.self.now.copies = ap (λ (v : VaultView). v.copies) c.self.view_is in
    let long : length c.args.self.now.copies ≡ length entries = sym (ap length same) ∙ length-map entries state_in in
    let made = c.in_ok-new.ensures in
    let kind_is : it.copy.kind ≡ kind = ap (λ (r : ReadingView). r.copy.kind) made in
    let count : c.len-count.result ≡ length entries = omega arith in
    let id_is : it.copy.id ≡ length entries + 1 = ap (λ (r : ReadingView). r.copy.id) made
    ∙ ap (λ (n : ℕ). n + 1) count in
    let parent : HasParent (map state_in entries) (length entries + 1) it.copy.kind =
    subst (HasParent (map state_in entries) (length entries + 1)) (sym kind_is)
    (subst (λ (cs : List CopyState). HasParent cs (length entries + 1) kind) (sym same)
    (subst (λ (n : ℕ). HasParent c.args.self.now.copies (n + 1) kind) long c.requires.parent)) in
    let since : it.since ≡ since_of (map state_in entries) it.copy.kind =
    ap (λ (r : ReadingView). r.since) made ∙ c.requires.since
    ∙ ap (λ (cs : List CopyState). since_of cs kind) (sym same)
    ∙ ap (since_of (map state_in entries)) (sym kind_is) in
    let room : length entries < 1024 = omega (arith, count) in
    rw c.in_ok-push.ensures.items
    (vault_push entries (entry.Reading it) c.self.invariant room
    (kept_new entries (length entries + 1) it id_is parent since))
