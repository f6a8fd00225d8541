-- The page counts of a volume, one after another.
use Rattle.std.proofs.Common.{◌≡◌, ℕ, ◌+◌, ◌<◌, ◌∷◌, [], List, length, get_or, take, ap, ◌∙◌, max, filter, refl}
use Rattle.std.specs.Prelude.{Bool, true, false, if◌then◌else◌}
use Rattle.std.proofs.lemmas.List.{take_more}
use Rattle.std.proofs.lemmas.List.Elements.{filter-append}
use Rattle.std.proofs.lemmas.List.Sums.{fold-append, fold_push}
use Rattle.page_core.specs.declared.page_counts.GivenCount.{GivenCount}
use Rattle.page_core.specs.PageCounts.{greatest}

abbrev greater : ℕ → GivenCount → ℕ
greater count g = max count g.pages

pub greatest_next : (first : ℕ) (gs : List GivenCount) (i : ℕ) (d : GivenCount) → i < length gs
    → greatest first (take (i + 1) gs) ≡ max (greatest first (take i gs)) (get_or gs i d).pages
greatest_next first gs i d lt =
    ap (greatest first) (take_more gs i d lt) ∙ fold_push greater first (take i gs) (get_or gs i d)

one_more : (is_taken : GivenCount → Bool) (count : ℕ) (x : GivenCount) (answer : Bool) → is_taken x ≡ answer
    → greatest count (filter is_taken (x ∷ [])) ≡ (if answer then max count x.pages else count)
one_more is_taken count x true is = rw is refl
one_more is_taken count x false is = rw is refl

-- what is counted by a test
pub greatest_taken : (first : ℕ) (gs : List GivenCount) (is_taken : GivenCount → Bool) (i : ℕ) (d : GivenCount)
    (answer : Bool) → i < length gs → is_taken (get_or gs i d) ≡ answer
    → greatest first (filter is_taken (take (i + 1) gs))
    ≡ (if answer then max (greatest first (filter is_taken (take i gs))) (get_or gs i d).pages
    else greatest first (filter is_taken (take i gs)))
greatest_taken first gs is_taken i d answer lt is =
    let before = filter is_taken (take i gs) in
    let x = get_or gs i d in
    ap (λ xs. greatest first (filter is_taken xs)) (take_more gs i d lt)
    ∙ ap (greatest first) (filter-append is_taken (take i gs) (x ∷ []))
    ∙ fold-append greater first before (filter is_taken (x ∷ []))
    ∙ one_more is_taken (greatest first before) x answer is
