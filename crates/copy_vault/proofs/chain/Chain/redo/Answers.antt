use Rattle.std.proofs.Common.{◌≡◌, ◌-◌, length, get_or, sym, ap, ◌∙◌, arith}
use Rattle.std.proofs.lemmas.List.{length-map}
use Rattle.copy_vault.specs.Copy.{CopyView}
use Rattle.copy_vault.specs.Chain.{last_redo, lent}
use Rattle.copy_vault.proofs.Chains.{at_ref, last_redo_at, some_members}
use Rattle.copy_vault.proofs.chain.Chain.redo.Goals as goal

pub returns-clause-redo : goal.returns-clause-redo
returns-clause-redo c =
    let refs = c.self.inside.members.items in
    let members = lent refs in
    let copy = c.index.result.now in
    let count : length members ≡ c.len.result = length-map refs (λ r. r.now) ∙ omega (arith, c.len.ensures) in
    let here : get_or members (length members - 1) copy.now ≡ copy.now =
    ap (λ n. get_or members (n - 1) copy.now) count ∙ at_ref refs (c.len.result - 1) copy c.index.ensures in
    c.redo.ensures ∙ ap (λ (k : CopyView). k.redo) (sym here)
    ∙ last_redo_at members copy.now (some_members members c.self.invariant) ∙ ap last_redo c.self.view_is
