use Rattle.std.proofs.Common.{◌≡◌, ◌<◌, length, map, ap, sym, subst, arith}
use Rattle.std.specs.Prelude.{IfErr, IfOk}
use Rattle.std.proofs.lemmas.List.{length-map}
use Rattle.copy_vault.specs.Vault.{CopyState, OpenRefuses, VaultView, complete, complete_refusal, state_in}
use Rattle.copy_vault.proofs.Vaults.{kept_lent, kept_there, state_there}
use Rattle.copy_vault.proofs.vault.Vault.lend.Goals as goal

pub returns-clause-ok : goal.returns-clause-ok
returns-clause-ok c =
    let entries = c.self.inside.entries.items in
    let k = c.in-Some.index in
    let same : map state_in entries ≡ c.args.self.now.copies = ap (λ (v : VaultView). v.copies) c.self.view_is in
    let lt : k < length entries =
    omega (arith, c.in-Some.ensures.found.0, ap length same, length-map entries state_in) in
    let here = state_there entries c.args.self.now.copies k c.args.id c.index_mut-entry.result.now same
    c.in-Some.ensures.found.1 lt c.index_mut-entry.ensures.value in
    subst (λ (s : CopyState). IfOk c.lend.result (λ copy. s ≡ complete copy)) (sym here) c.lend.ensures.ok

pub returns-clause-kept : goal.returns-clause-kept
returns-clause-kept c =
    let entries = c.self.inside.entries.items in
    let k = c.in-Some.index in
    let same : map state_in entries ≡ c.args.self.now.copies = ap (λ (v : VaultView). v.copies) c.self.view_is in
    let lt : k < length entries =
    omega (arith, c.in-Some.ensures.found.0, ap length same, length-map entries state_in) in
    let kept = kept_there entries c.args.self.now.copies k c.args.id c.index_mut-entry.result.now c.self.invariant
    same c.in-Some.ensures.found.1 lt c.index_mut-entry.ensures.value in
    kept_lent c.args.self.now.copies c.args.id c.index_mut-entry.result.now c.lend.result kept c.lend.ensures.ok

pub returns-clause-err : goal.returns-clause-err
returns-clause-err c =
    let entries = c.self.inside.entries.items in
    let k = c.in-Some.index in
    let same : map state_in entries ≡ c.args.self.now.copies = ap (λ (v : VaultView). v.copies) c.self.view_is in
    let lt : k < length entries =
    omega (arith, c.in-Some.ensures.found.0, ap length same, length-map entries state_in) in
    let here = state_there entries c.args.self.now.copies k c.args.id c.index_mut-entry.result.now same
    c.in-Some.ensures.found.1 lt c.index_mut-entry.ensures.value in
    subst (λ (s : CopyState). IfErr c.lend.result (OpenRefuses (complete_refusal s))) (sym here) c.lend.ensures.err
