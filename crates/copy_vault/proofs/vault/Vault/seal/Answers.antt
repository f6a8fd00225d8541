use Rattle.std.proofs.Common.{◌≡◌, ◌<◌, length, map, ap, sym, subst, arith, None, Some, ◌∙◌}
use Rattle.std.specs.Prelude.{OnOk, IfOk, IfErr}
use Rattle.std.proofs.lemmas.List.{length-map}
use Rattle.copy_vault.specs.Vault.{CopyState, VaultView, state_in, state_of, seal_refusal, sealed_in}
use Rattle.copy_vault.specs.Vault.{taken_in, with_state}
use Rattle.page_core.proofs.Public.{on_ok}
use Rattle.copy_vault.proofs.Vaults.{seal_keeps, state_there, set_state}
use Rattle.copy_vault.proofs.vault.Vault.seal.Goals as goal

pub invariant_of-self : goal.invariant_of-self
invariant_of-self c =
    let entries = c.self.inside.entries.items in
    let k = c.in-Some.index in
    let same : map state_in entries ≡ c.args.self.now.copies = ap (λ (v : VaultView). v.copies) c.self.view_is in
    let lt : k < length entries =
    omega (arith, c.in-Some.ensures.found.0, ap length same, length-map entries state_in) in
    let s = c.seal.ensures in
    seal_keeps entries k c.index_mut-entry.result.now c.seal.new.self c.seal.result c.self.invariant lt
    c.index_mut-entry.ensures.value s.ok s.sealed s.same

pub returns-clause-ok : goal.returns-clause-ok
returns-clause-ok c =
    let entries = c.self.inside.entries.items in
    let k = c.in-Some.index in
    let same : map state_in entries ≡ c.args.self.now.copies = ap (λ (v : VaultView). v.copies) c.self.view_is in
    let lt : k < length entries =
    omega (arith, c.in-Some.ensures.found.0, ap length same, length-map entries state_in) in
    let here = state_there entries c.args.self.now.copies k c.args.id c.index_mut-entry.result.now same
    c.in-Some.ensures.found.1 lt c.index_mut-entry.ensures.value in
    subst (λ (s : CopyState). OnOk c.seal.result (seal_refusal s ≡ None)) (sym here) c.seal.ensures.ok

pub returns-clause-err : goal.returns-clause-err
returns-clause-err c =
    let entries = c.self.inside.entries.items in
    let k = c.in-Some.index in
    let same : map state_in entries ≡ c.args.self.now.copies = ap (λ (v : VaultView). v.copies) c.self.view_is in
    let lt : k < length entries =
    omega (arith, c.in-Some.ensures.found.0, ap length same, length-map entries state_in) in
    let here = state_there entries c.args.self.now.copies k c.args.id c.index_mut-entry.result.now same
    c.in-Some.ensures.found.1 lt c.index_mut-entry.ensures.value in
    subst (λ (s : CopyState). IfErr c.seal.result (λ fault. seal_refusal s ≡ Some fault)) (sym here)
    c.seal.ensures.err

pub returns-clause-count : goal.returns-clause-count
returns-clause-count c =
    let entries = c.self.inside.entries.items in
    let k = c.in-Some.index in
    let same : map state_in entries ≡ c.args.self.now.copies = ap (λ (v : VaultView). v.copies) c.self.view_is in
    let lt : k < length entries =
    omega (arith, c.in-Some.ensures.found.0, ap length same, length-map entries state_in) in
    let here = state_there entries c.args.self.now.copies k c.args.id c.index_mut-entry.result.now same
    c.in-Some.ensures.found.1 lt c.index_mut-entry.ensures.value in
    subst (λ (s : CopyState). IfOk c.seal.result (λ taken. taken ≡ taken_in s)) (sym here) c.seal.ensures.count

pub returns-clause-sealed : goal.returns-clause-sealed
returns-clause-sealed c =
    let entries = c.self.inside.entries.items in
    let copies = c.args.self.now.copies in
    let k = c.in-Some.index in
    let same : map state_in entries ≡ copies = ap (λ (v : VaultView). v.copies) c.self.view_is in
    let lt : k < length entries =
    omega (arith, c.in-Some.ensures.found.0, ap length same, length-map entries state_in) in
    let here = state_there entries copies k c.args.id c.index_mut-entry.result.now same
    c.in-Some.ensures.found.1 lt c.index_mut-entry.ensures.value in
    on_ok c.seal.result _ _ (λ (is : state_in c.seal.new.self ≡ sealed_in (state_in c.index_mut-entry.result.now)).
    set_state entries k c.args.id c.seal.new.self (sealed_in (state_of copies c.args.id)) c.in-Some.ensures.found.1
    (is ∙ ap sealed_in (sym here))
    ∙ ap (λ cs. with_state cs c.args.id (sealed_in (state_of copies c.args.id))) same) c.seal.ensures.sealed
