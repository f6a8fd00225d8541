-- The chain that a copy stands on, by the copies of a vault and by their order.
use Rattle.std.proofs.Common.{◌≡◌, ℕ, List, [], ◌∷◌, ◌++◌, append_assoc, reverse, refl, sym, ap, subst, ◌∙◌}
use Rattle.std.specs.List.{AllByRecursion}
use Rattle.std.proofs.lemmas.List.{append-nil, reverse-append, reverse-reverse}
use Rattle.page_core.specs.declared.page.Page.{Page}
use Rattle.page_core.specs.Page.{formatted}
use Rattle.copy_vault.specs.declared.copy_id.CopyKind.{CopyKind}
use Rattle.copy_vault.specs.declared.copy_id.CopyKind.TheVariants.{Full, Inc}
use Rattle.copy_vault.specs.Chain.{Follow, IsChain, content, last_of, takings}
use Rattle.copy_vault.specs.ChainOf.{IsChainOf}
use Rattle.page_decisions.specs.Decisions.{decision_at, page_of}
use Rattle.copy_vault.specs.Copy.{CopyView}
use Rattle.copy_vault.specs.Vault.{CopyState, complete, state_of}
use Rattle.copy_coverage.specs.Copied.{StandsOn}
use Rattle.copy_coverage.proofs.Public.{complete_same}
use Rattle.engine_restart.specs.Added.{StandsBehind}

-- the last of these copies
abbrev final : CopyView → List CopyView → CopyView
final copy [] = copy
final copy (next ∷ more) = final next more

final_is : (copy : CopyView) (more before : List CopyView) (end : CopyView) → copy ∷ more ≡ before ++ end ∷ []
    → final copy more ≡ end
final_is copy [] [] end e = cc
final_is copy [] (x ∷ []) end e = cc
final_is copy [] (x ∷ y ∷ before) end e = cc
final_is copy (next ∷ more) [] end e = cc
final_is copy (next ∷ more) (x ∷ before) end e =
    let rest : next ∷ more ≡ before ++ end ∷ [] = cc in final_is next more before end rest

-- a copy of this parent stands on a chain that ends there, and on what the chain's first copy stands on
along : (copies : List CopyState) (parent : ℕ) (copy : CopyView) (older more : List CopyView)
    → StandsOn copies copy.kind older → Follow copy more
    → AllByRecursion (λ c. state_of copies c.id ≡ complete c) (copy ∷ more)
    → state_of copies parent ≡ complete (final copy more)
    → StandsOn copies (Inc parent) (reverse (copy ∷ more) ++ older)
along copies parent copy older [] stands follow of_vault ends = (ends, stands)
along copies parent copy older (next ∷ more) stands follow of_vault ends =
    let stands' : StandsOn copies next.kind (copy ∷ older) =
    subst (λ kind. StandsOn copies kind (copy ∷ older)) (sym follow.0) (of_vault.0, stands) in
    let same : reverse (next ∷ more) ++ copy ∷ older ≡ reverse (copy ∷ next ∷ more) ++ older =
    sym (append_assoc (reverse (next ∷ more)) (copy ∷ []) older)
    ∙ ap (λ (cs : List CopyView). cs ++ older) (sym (reverse-append (copy ∷ []) (next ∷ more))) in
    subst (StandsOn copies (Inc parent)) same
    (along copies parent next (copy ∷ older) more stands' follow.1 of_vault.1 ends)

-- so does one of these members
on_members : (copies : List CopyState) (parent : ℕ) (members : List CopyView) → IsChain members
    → IsChainOf copies parent members → StandsOn copies (Inc parent) (reverse members)
on_members copies parent members chain of_id =
    let first = chain.first in
    let more = chain.more in
    let of_vault = subst (AllByRecursion (λ c. state_of copies c.id ≡ complete c)) chain.is of_id.of_vault in
    let ends : state_of copies parent ≡ complete (final first more) =
    of_id.of_id ∙ ap complete (sym (final_is first more of_id.before of_id.last (sym chain.is ∙ of_id.is))) in
    let stands : StandsOn copies first.kind [] = subst (λ kind. StandsOn copies kind []) (sym chain.full) refl in
    subst (StandsOn copies (Inc parent)) (append-nil (reverse (first ∷ more)) ∙ ap reverse (sym chain.is))
    (along copies parent first [] more stands chain.linked of_vault ends)

-- a copy stands on one chain alone
one_chain : (copies : List CopyState) (kind : CopyKind) (a b : List CopyView) → StandsOn copies kind a
    → StandsOn copies kind b → a ≡ b
one_chain copies Full a b is other = is ∙ sym other
one_chain copies (Inc parent) [] b is other = absurd is
one_chain copies (Inc parent) (x ∷ a) [] is other = absurd other
one_chain copies (Inc parent) (x ∷ a) (y ∷ b) is other =
    let same : x ≡ y = complete_same x y (sym is.0 ∙ other.0) in
    let rest : StandsOn copies x.kind b = subst (λ (c : CopyView). StandsOn copies c.kind b) (sym same) other.1 in
    ap (λ (c : CopyView). c ∷ a) same ∙ ap (λ (cs : List CopyView). y ∷ cs) (one_chain copies x.kind a b is.1 rest)

pub behind_is : (copies : List CopyState) (kind : CopyKind) (found older : List CopyView)
    → StandsBehind copies kind found → StandsOn copies kind older → reverse older ≡ found
behind_is copies Full found older behind on = ap reverse on ∙ sym behind
behind_is copies (Inc parent) found older behind on =
    ap reverse (one_chain copies (Inc parent) older (reverse found) on (on_members copies parent found behind.0 behind.1))
    ∙ reverse-reverse found

pub behind_stands : (copies : List CopyState) (kind : CopyKind) (found : List CopyView)
    → StandsBehind copies kind found → StandsOn copies kind (reverse found)
behind_stands copies Full found behind = ap reverse behind
behind_stands copies (Inc parent) found behind = on_members copies parent found behind.0 behind.1

-- ---- the pages of a chain with one copy more

takings_push : (members : List CopyView) (copy : CopyView) (p : ℕ)
    → takings (members ++ copy ∷ []) p ≡ takings members p ++ page_of (decision_at copy.pages p)
takings_push [] copy p = append-nil (page_of (decision_at copy.pages p))
takings_push (next ∷ more) copy p =
    ap (λ (ps : List Page). page_of (decision_at next.pages p) ++ ps) (takings_push more copy p)
    ∙ sym (append_assoc (page_of (decision_at next.pages p)) (takings more p) (page_of (decision_at copy.pages p)))

last_of_append : (page : Page) (pages more : List Page) → last_of page (pages ++ more) ≡ last_of (last_of page pages) more
last_of_append page [] more = refl
last_of_append page (next ∷ pages) more = last_of_append next pages more

pub content_push : (members : List CopyView) (copy : CopyView) (p : ℕ)
    → content (members ++ copy ∷ []) p ≡ last_of (content members p) (page_of (decision_at copy.pages p))
content_push members copy p =
    ap (last_of (formatted p)) (takings_push members copy p)
    ∙ last_of_append (formatted p) (takings members p) (page_of (decision_at copy.pages p))

pub formatted_number : (p : ℕ) → (formatted p).number ≡ p
unfolding formatted
formatted_number p = refl
