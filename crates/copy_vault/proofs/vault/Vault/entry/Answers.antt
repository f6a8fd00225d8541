use Rattle.std.proofs.Common.{◌≡◌, ◌<◌, length, map, ap, sym, arith}
use Rattle.std.proofs.lemmas.List.{length-map}
use Rattle.copy_vault.specs.Vault.{VaultView, state_in}
use Rattle.copy_vault.proofs.Vaults.{kept_there, state_there}
use Rattle.copy_vault.proofs.vault.Vault.entry.Goals as goal

pub returns-clause-state : goal.returns-clause-state
returns-clause-state c =
    let entries = c.self.inside.entries.items in
    let k = c.in_ok-index.index in
    let same : map state_in entries ≡ c.args.self.now.copies = ap (λ (v : VaultView). v.copies) c.self.view_is in
    let found = c.in_ok-index.ensures.found in
    let lt : k < length entries = omega (arith, found.0, ap length same, length-map entries state_in) in
    sym (state_there entries c.args.self.now.copies k c.args.id c.index.result.now same found.1 lt c.index.ensures)

pub returns-clause-kept : goal.returns-clause-kept
returns-clause-kept c =
    let entries = c.self.inside.entries.items in
    let k = c.in_ok-index.index in
    let same : map state_in entries ≡ c.args.self.now.copies = ap (λ (v : VaultView). v.copies) c.self.view_is in
    let found = c.in_ok-index.ensures.found in
    let lt : k < length entries = omega (arith, found.0, ap length same, length-map entries state_in) in
    kept_there entries c.args.self.now.copies k c.args.id c.index.result.now c.self.invariant same found.1 lt
    c.index.ensures
