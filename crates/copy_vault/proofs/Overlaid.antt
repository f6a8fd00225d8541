-- The pages of a chain, each copy laid over those before it.
use Rattle.std.proofs.Common.{◌≡◌, ℕ, ◌+◌, ◌<◌, List, [], ◌∷◌, ◌++◌, length, get_or, map, take, sym, ap, ◌∙◌}
use Rattle.std.proofs.Common.{arith}
use Rattle.std.specs.List.{range_with_len}
use Rattle.std.proofs.lemmas.List.{append-nil, ext_get_or, take_more}
use Rattle.std.proofs.lemmas.List.Concat.{flat_map-append}
use Rattle.std.proofs.lemmas.List.FromFn.{get_or-map-range_with_len, length-map-range_with_len}
use Rattle.page_core.specs.declared.page.Page.{Page}
use Rattle.page_decisions.specs.Decisions.{PageDecision, undecided, taken, kept, decision_at, page_of}
use Rattle.copy_vault.specs.Copy.{CopyView}
use Rattle.copy_vault.specs.Chain.{last_one, newest, takings}
use Rattle.page_decisions.specs.Slots.{AreLaidOver, taken_over}
use Rattle.copy_vault.proofs.Chains.{last_one_push}

over_is : (d : PageDecision) (pages : List Page) → last_one (pages ++ page_of d) ≡ taken_over d (last_one pages)
over_is undecided pages = ap last_one (append-nil pages)
over_is (taken page) pages = last_one_push pages page
over_is kept pages = ap last_one (append-nil pages)

newest_more : (members : List CopyView) (copy : CopyView) (p : ℕ)
    → newest (members ++ copy ∷ []) p ≡ taken_over (decision_at copy.pages p) (newest members p)
newest_more members copy p =
    let piece : CopyView → List Page = λ copy. page_of (decision_at copy.pages p) in
    ap last_one (flat_map-append piece members (copy ∷ [])
    ∙ ap (λ (ps : List Page). takings members p ++ ps) (append-nil (page_of (decision_at copy.pages p))))
    ∙ over_is (decision_at copy.pages p) (takings members p)

-- the newest ones of so many pages
abbrev all_newest : List CopyView → ℕ → List (List Page)
all_newest members n = map (newest members) (range_with_len 0 n)

at_page : (members : List CopyView) (n p : ℕ) (d : List Page) → p < n
    → get_or (all_newest members n) p d ≡ newest members p
at_page members n p d lt = get_or-map-range_with_len (newest members) 0 n p p d lt (omega arith)

over_newest : (members : List CopyView) (copy : CopyView) (n : ℕ) (old new : List (List Page))
    → old ≡ all_newest members n → AreLaidOver copy.pages old new → new ≡ all_newest (members ++ copy ∷ []) n
over_newest members copy n old new is over =
    let more = members ++ copy ∷ [] in
    let wide : length new ≡ n = over.same_count ∙ ap length is ∙ length-map-range_with_len (newest members) 0 n in
    ext_get_or [] new (all_newest more n) (wide ∙ sym (length-map-range_with_len (newest more) 0 n)) (λ p lt.
    let below : p < n = omega arith in
    over.each p [] (omega (arith, over.same_count))
    ∙ ap (taken_over (decision_at copy.pages p))
    (ap (λ (ps : List (List Page)). get_or ps p []) is ∙ at_page members n p [] below)
    ∙ sym (newest_more members copy p) ∙ sym (at_page more n p [] below))

-- the newest ones up to a copy, and then with it
pub newest_next : (members : List CopyView) (i n : ℕ) (copy : CopyView) (old new : List (List Page))
    → i < length members → get_or members i copy ≡ copy → old ≡ map (newest (take i members)) (range_with_len 0 n)
    → AreLaidOver copy.pages old new → new ≡ map (newest (take (i + 1) members)) (range_with_len 0 n)
newest_next members i n copy old new lt is so_far over =
    over_newest (take i members) copy n old new so_far over
    ∙ sym (ap (λ (ms : List CopyView). all_newest ms n)
    (take_more members i copy lt ∙ ap (λ (c : CopyView). take i members ++ c ∷ []) is))
