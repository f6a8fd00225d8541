-- An archive that is written a part at a time.
use Rattle.std.proofs.Common.{◌≡◌, ℕ, ◌+◌, ◌<◌, ◌≤◌, List, [], ◌∷◌, ◌++◌, length, take, drop, sym, ap, ◌∙◌, arith}
use Rattle.std.proofs.lemmas.List.{append_assoc, append-nil, length-append, take-append-drop, take_more}
use Rattle.std.proofs.lemmas.List.Concat.{flat_map-append}
use Rattle.page_core.specs.declared.page.Page.{Page}
use Rattle.page_core.specs.Page.{page_bytes, volume_bytes}
use Rattle.page_core.proofs.Public.{into}
use Rattle.page_decisions.specs.Decisions.{PageDecision, page_of, taken_pages, decision_at, undecided}

-- the pages that were taken of the first ones, and of one more
pub pages_more : (pages : List PageDecision) (n : ℕ) → n < length pages
    → volume_bytes (taken_pages (take (n + 1) pages))
    ≡ volume_bytes (taken_pages (take n pages)) ++ volume_bytes (page_of (decision_at pages n))
pages_more pages n lt =
    ap (λ (ds : List PageDecision). volume_bytes (taken_pages ds)) (take_more pages n undecided lt)
    ∙ ap volume_bytes (flat_map-append page_of (take n pages) (decision_at pages n ∷ [])
    ∙ ap (λ (ps : List Page). taken_pages (take n pages) ++ ps) (append-nil (page_of (decision_at pages n))))
    ∙ flat_map-append page_bytes (taken_pages (take n pages)) (page_of (decision_at pages n))

-- and the bytes of the others follow
pub pages_all : (pages : List PageDecision) (n : ℕ)
    → volume_bytes (taken_pages (take n pages)) ++ volume_bytes (taken_pages (drop n pages))
    ≡ volume_bytes (taken_pages pages)
pages_all pages n =
    sym (flat_map-append page_bytes (taken_pages (take n pages)) (taken_pages (drop n pages)))
    ∙ ap volume_bytes (sym (flat_map-append page_of (take n pages) (drop n pages))
    ∙ ap taken_pages (take-append-drop n pages))

-- what was sent and what fills the buffer begin the whole
pub begins_all : (sent filled header : List ℕ) (pages : List PageDecision) (n : ℕ)
    → sent ++ filled ≡ header ++ volume_bytes (taken_pages (take n pages))
    → sent ++ (filled ++ volume_bytes (taken_pages (drop n pages))) ≡ header ++ volume_bytes (taken_pages pages)
begins_all sent filled header pages n is =
    let one = volume_bytes (taken_pages (take n pages)) in
    let two = volume_bytes (taken_pages (drop n pages)) in
    sym (append_assoc sent filled two) ∙ ap (λ (bs : List ℕ). bs ++ two) is ∙ append_assoc header one two
    ∙ ap (λ (bs : List ℕ). header ++ bs) (pages_all pages n)

-- a part of what fills the buffer went out
pub part_sent : (sent filled header : List ℕ) (pages : List PageDecision) (n done part : ℕ) → length sent ≡ done
    → part ≤ length filled → sent ++ filled ≡ header ++ volume_bytes (taken_pages (take n pages))
    → sent ++ take part filled ≡ take (done + part) (header ++ volume_bytes (taken_pages pages))
part_sent sent filled header pages n done part count fits is =
    into sent filled (volume_bytes (taken_pages (drop n pages))) done part (sym count) fits
    ∙ ap (take (done + part)) (begins_all sent filled header pages n is)

-- and there is more
pub part_within : (sent filled header : List ℕ) (pages : List PageDecision) (n done part : ℕ) → length sent ≡ done
    → part < length filled → sent ++ filled ≡ header ++ volume_bytes (taken_pages (take n pages))
    → done + part < length (header ++ volume_bytes (taken_pages pages))
part_within sent filled header pages n done part count fits is =
    let rest = volume_bytes (taken_pages (drop n pages)) in
    omega (
      arith,
      ap length (begins_all sent filled header pages n is),
      length-append sent (filled ++ rest),
      length-append filled rest,
    )

-- a page more fills the buffer
pub more_filled : (sent more left before page header : List ℕ) (pages : List PageDecision) (n : ℕ) → n < length pages
    → more ++ left ≡ before → page ≡ volume_bytes (page_of (decision_at pages n))
    → sent ++ before ≡ header ++ volume_bytes (taken_pages (take n pages))
    → (sent ++ more) ++ (left ++ page) ≡ header ++ volume_bytes (taken_pages (take (n + 1) pages))
more_filled sent more left before page header pages n lt all page_is is =
    append_assoc sent more (left ++ page)
    ∙ ap (λ (bs : List ℕ). sent ++ bs) (sym (append_assoc more left page) ∙ ap (λ (bs : List ℕ). bs ++ page) all)
    ∙ sym (append_assoc sent before page) ∙ ap (λ (bs : List ℕ). bs ++ page) is
    ∙ append_assoc header (volume_bytes (taken_pages (take n pages))) page
    ∙ ap (λ (bs : List ℕ). header ++ bs)
    (ap (λ (bs : List ℕ). volume_bytes (taken_pages (take n pages)) ++ bs) page_is ∙ sym (pages_more pages n lt))
