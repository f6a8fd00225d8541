use Rattle.std.proofs.Common.{◌≡◌, ◌<◌, length, map, ap, sym, subst, arith, None, Some, ◌∙◌}
use Rattle.std.specs.Prelude.{OnOk, IfErr}
use Rattle.std.proofs.lemmas.List.{length-map}
use Rattle.copy_vault.specs.declared.vault.VaultEntry.TheVariants as entry
use Rattle.copy_vault.specs.Vault.{CopyState, VaultView, state_in, drop_refusal, dropped, with_state}
use Rattle.page_core.proofs.Public.{on_ok}
use Rattle.copy_vault.proofs.Vaults.{drop_keeps, state_there, set_state}
use Rattle.copy_vault.proofs.vault.Vault.drop_open.Goals as goal

pub invariant_of-self : goal.invariant_of-self
invariant_of-self c =
    let entries = c.self.inside.entries.items in
    let k = c.in-Some.index in
    let same : map state_in entries ≡ c.args.self.now.copies = ap (λ (v : VaultView). v.copies) c.self.view_is in
    let lt : k < length entries =
    omega (arith, c.in-Some.ensures.found.0, ap length same, length-map entries state_in) in
    let s = c.drop_open.ensures in
    drop_keeps entries k c.index_mut-entry.result.now c.drop_open.new.self c.drop_open.result c.self.invariant lt
    c.index_mut-entry.ensures.value s.ok s.dropped s.same

pub returns-clause-ok : goal.returns-clause-ok
returns-clause-ok c =
    let entries = c.self.inside.entries.items in
    let k = c.in-Some.index in
    let same : map state_in entries ≡ c.args.self.now.copies = ap (λ (v : VaultView). v.copies) c.self.view_is in
    let lt : k < length entries =
    omega (arith, c.in-Some.ensures.found.0, ap length same, length-map entries state_in) in
    let here = state_there entries c.args.self.now.copies k c.args.id c.index_mut-entry.result.now same
    c.in-Some.ensures.found.1 lt c.index_mut-entry.ensures.value in
    subst (λ (s : CopyState). OnOk c.drop_open.result (drop_refusal s ≡ None)) (sym here) c.drop_open.ensures.ok

pub returns-clause-err : goal.returns-clause-err
returns-clause-err c =
    let entries = c.self.inside.entries.items in
    let k = c.in-Some.index in
    let same : map state_in entries ≡ c.args.self.now.copies = ap (λ (v : VaultView). v.copies) c.self.view_is in
    let lt : k < length entries =
    omega (arith, c.in-Some.ensures.found.0, ap length same, length-map entries state_in) in
    let here = state_there entries c.args.self.now.copies k c.args.id c.index_mut-entry.result.now same
    c.in-Some.ensures.found.1 lt c.index_mut-entry.ensures.value in
    subst (λ (s : CopyState). IfErr c.drop_open.result (λ fault. drop_refusal s ≡ Some fault)) (sym here)
    c.drop_open.ensures.err

pub returns-clause-dropped : goal.returns-clause-dropped
returns-clause-dropped c =
    let entries = c.self.inside.entries.items in
    let copies = c.args.self.now.copies in
    let k = c.in-Some.index in
    let same : map state_in entries ≡ copies = ap (λ (v : VaultView). v.copies) c.self.view_is in
    on_ok c.drop_open.result _ _ (λ (is : c.drop_open.new.self ≡ entry.Dropped).
    set_state entries k c.args.id c.drop_open.new.self dropped c.in-Some.ensures.found.1 (ap state_in is)
    ∙ ap (λ cs. with_state cs c.args.id dropped) same) c.drop_open.ensures.dropped
