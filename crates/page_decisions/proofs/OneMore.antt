-- One decision more of a copy, or one more element of a list.
use Rattle.std.proofs.Common.{◌≡◌, List, [], ◌∷◌, ◌++◌, ap, ◌∙◌}
use Rattle.std.specs.List.{AllByRecursion}
use Rattle.std.proofs.lemmas.List.{append-nil}
use Rattle.std.proofs.lemmas.List.Concat.{flat_map-append}
use Rattle.page_core.specs.declared.page.Page.{Page}
use Rattle.page_decisions.specs.Decisions.{PageDecision, kept, page_of, taken_pages}

pub taken_push : (pages : List PageDecision) (d : PageDecision)
    → taken_pages (pages ++ d ∷ []) ≡ taken_pages pages ++ page_of d
taken_push pages d =
    flat_map-append page_of pages (d ∷ []) ∙ ap (λ (ps : List Page). taken_pages pages ++ ps) (append-nil (page_of d))

pub taken_push_kept : (pages : List PageDecision) → taken_pages (pages ++ kept ∷ []) ≡ taken_pages pages
taken_push_kept pages = taken_push pages kept ∙ append-nil (taken_pages pages)

pub all_push : {X : Type 0} (P : X → Type 0) (xs : List X) (x : X) → AllByRecursion P xs → P x
    → AllByRecursion P (xs ++ x ∷ [])
all_push P [] x all here = (here, tt)
all_push P (y ∷ ys) x all here = (all.0, all_push P ys x all.1 here)
