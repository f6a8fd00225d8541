-- The chain of a vault's copy, and what a crash leaves of its log.
use Rattle.std.proofs.Common.{◌≡◌, ℕ, List, [], ◌∷◌, ◌++◌, reverse, refl, sym, ap, subst, ◌∙◌}
use Rattle.std.specs.List.{AllByRecursion}
use Rattle.std.proofs.lemmas.List.{append_assoc, append-nil, reverse-append}
use Rattle.log_records.specs.Coverage.{resume}
use Rattle.log_records.specs.Image.{image}
use Rattle.log_records.specs.Log.{IsLog, Log}
use Rattle.copy_vault.specs.Chain.{Follow, IsChain, content, last_redo}
use Rattle.copy_vault.specs.ChainOf.{IsChainOf}
use Rattle.copy_vault.specs.Copy.{CopyView}
use Rattle.copy_vault.specs.Vault.{CopyState, complete, state_of}
use Rattle.copy_coverage.specs.Copied.{AreRestorable, IsCovered, StandsOn}
use Rattle.copy_coverage.specs.Kept.{IsKeptOf}
use Rattle.copy_coverage.proofs.Kept.{restored}

-- the members are a copy and those that it stands on
pub record IsChainTo (copies : List CopyState) (members : List CopyView) (copy : CopyView) : Type 0 where
  pub older : List CopyView
  pub stands : StandsOn copies copy.kind older
  pub is : members ≡ reverse (copy ∷ older)

-- the last of these copies
abbrev last : CopyView → List CopyView → CopyView
last copy [] = copy
last copy (next ∷ more) = last next more

redo_of_last : (copy : CopyView) (more : List CopyView) → last_redo (copy ∷ more) ≡ (last copy more).redo
redo_of_last copy [] = refl
redo_of_last copy (next ∷ more) = redo_of_last next more

last_is : (copy : CopyView) (more before : List CopyView) (end : CopyView) → copy ∷ more ≡ before ++ end ∷ []
    → last copy more ≡ end
last_is copy [] [] end e = cc
last_is copy [] (x ∷ []) end e = cc
last_is copy [] (x ∷ y ∷ before) end e = cc
last_is copy (next ∷ more) [] end e = cc
last_is copy (next ∷ more) (x ∷ before) end e =
    let rest : next ∷ more ≡ before ++ end ∷ [] = cc in last_is next more before end rest

chain_to : (copies : List CopyState) (copy : CopyView) (older more : List CopyView)
    → StandsOn copies copy.kind older → Follow copy more
    → AllByRecursion (λ c. state_of copies c.id ≡ complete c) (copy ∷ more)
    → IsChainTo copies (reverse (copy ∷ older) ++ more) (last copy more)
chain_to copies copy older [] stands follow of_vault = record {
  older = older;
  stands = stands;
  is = append-nil (reverse (copy ∷ older));
}
chain_to copies copy older (next ∷ more) stands follow of_vault =
    let stands' : StandsOn copies next.kind (copy ∷ older) =
    subst (λ kind. StandsOn copies kind (copy ∷ older)) (sym follow.0) (of_vault.0, stands) in
    let same : reverse (next ∷ copy ∷ older) ++ more ≡ reverse (copy ∷ older) ++ next ∷ more =
    ap (λ (cs : List CopyView). cs ++ more) (reverse-append (next ∷ []) (copy ∷ older))
    ∙ append_assoc (reverse (copy ∷ older)) (next ∷ []) more in
    subst (λ (cs : List CopyView). IsChainTo copies cs (last next more)) same
    (chain_to copies next (copy ∷ older) more stands' follow.1 of_vault.1)

-- no page of the chain lacks a change below the redo point of its last copy
pub covered_of_members : (log : Log) (f : ℕ) (copies : List CopyState) (id : ℕ) (members : List CopyView) (p : ℕ)
    → AreRestorable log f copies → IsChain members → IsChainOf copies id members
    → IsCovered log.records f (last_redo members) p (content members p)
covered_of_members log f copies id members p are chain of_id =
    let first = chain.first in
    let more = chain.more in
    let end = last first more in
    let of_vault = subst (AllByRecursion (λ c. state_of copies c.id ≡ complete c)) chain.is of_id.of_vault in
    let to = chain_to copies first [] more (subst (λ kind. StandsOn copies kind []) (sym chain.full) refl)
    chain.linked of_vault in
    let state : state_of copies id ≡ complete end =
    of_id.of_id ∙ ap complete (sym (last_is first more of_id.before of_id.last (sym chain.is ∙ of_id.is))) in
    let redo : last_redo members ≡ end.redo = ap last_redo chain.is ∙ redo_of_last first more in
    let covered : IsCovered log.records f end.redo p (content (reverse (end ∷ to.older)) p) =
    are.covered id end to.older state to.stands p in
    rw redo
    (subst (λ (cs : List CopyView). IsCovered log.records f end.redo p (content cs p)) (sym (chain.is ∙ to.is)) covered)

pub restored_of_members : (log : Log) (f : ℕ) (copies : List CopyState) (rest : Log) (id : ℕ)
    (members : List CopyView) (p : ℕ) → IsLog log → AreRestorable log f copies → IsKeptOf log f rest
    → IsChain members → IsChainOf copies id members
    → resume (content members p) rest.records (last_redo members) ≡ image rest.records p
restored_of_members log f copies rest id members p valid are crash chain of_id =
    restored log f rest p (last_redo members) (content members p) valid crash
    (covered_of_members log f copies id members p are chain of_id)
