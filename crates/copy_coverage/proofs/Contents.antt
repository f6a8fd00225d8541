-- What a chain has of a page, by what its last copy decided.
use Rattle.std.proofs.Common.{◌≡◌, ℕ, List, [], ◌∷◌, ◌++◌, reverse, refl, ap, ◌∙◌}
use Rattle.std.proofs.lemmas.List.{append-nil, reverse-append}
use Rattle.std.proofs.lemmas.List.Concat.{flat_map-append}
use Rattle.page_core.specs.declared.page.Page.{Page}
use Rattle.page_core.specs.Page.{formatted}
use Rattle.copy_vault.specs.Chain.{content, last_of, takings}
use Rattle.page_decisions.specs.Decisions.{PageDecision, decision_at, page_of}
use Rattle.copy_vault.specs.Copy.{CopyView}

last_of-append : (page : Page) (xs ys : List Page) → last_of page (xs ++ ys) ≡ last_of (last_of page xs) ys
last_of-append page [] ys = refl
last_of-append page (x ∷ xs) ys = last_of-append x xs ys

-- the page as the last copy took it, or as those before it have it
abbrev pub decided_over : Page → PageDecision → Page
decided_over older decision = last_of older (page_of decision)

pub content_over : (copy : CopyView) (older : List CopyView) (p : ℕ)
    → content (reverse (copy ∷ older)) p ≡ decided_over (content (reverse older) p) (decision_at copy.pages p)
content_over copy older p =
    let here = page_of (decision_at copy.pages p) in
    ap (λ (members : List CopyView). content members p) (reverse-append (copy ∷ []) older)
    ∙ ap (last_of (formatted p))
    (flat_map-append (λ (c : CopyView). page_of (decision_at c.pages p)) (reverse older) (copy ∷ [])
    ∙ ap (λ (pages : List Page). takings (reverse older) p ++ pages) (append-nil here))
    ∙ last_of-append (formatted p) (takings (reverse older) p) here

pub content_by : (copy : CopyView) (older : List CopyView) (p : ℕ) (decision : PageDecision)
    → decision_at copy.pages p ≡ decision
    → content (reverse (copy ∷ older)) p ≡ decided_over (content (reverse older) p) decision
content_by copy older p decision is = content_over copy older p ∙ ap (decided_over (content (reverse older) p)) is
