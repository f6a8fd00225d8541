-- The pages of a new volume, and of one that has grown.
use Rattle.std.proofs.Common.{◌≡◌, ℕ, zero, suc, ◌+◌, ◌-◌, ◌<◌, ◌≤◌, List, [], ◌∷◌, ◌++◌, length, get_or, map}
use Rattle.std.proofs.Common.{refl, sym, ap, ◌∙◌, arith, inl, inr}
use Rattle.std.specs.List.{range_with_len}
use Rattle.std.proofs.lemmas.Bool.{cases_lt}
use Rattle.std.proofs.lemmas.List.{append-nil, append_assoc, get_or_append_left, get_or-append_right, length-append}
use Rattle.std.proofs.lemmas.List.FromFn.{get_or-map-range_with_len, length-map-range_with_len, map-range_with_len_more}
use Rattle.page_core.specs.declared.page.Page.{Page}
use Rattle.page_core.specs.Page.{formatted}
use Rattle.page_core.specs.Volume.{AreNumbered, formatted_pages, grown_to}

number-formatted : (n : ℕ) → (formatted n).number ≡ n
unfolding formatted
number-formatted n = refl

-- formatted pages, of the numbers from `first` on, one after another
number-formatted_from : (first n i k : ℕ) (d : Page) → i < n → first + i ≡ k
    → (get_or (map formatted (range_with_len first n)) i d).number ≡ k
number-formatted_from first n i k d lt at =
    ap (λ (page : Page). page.number) (get_or-map-range_with_len formatted first n i k d lt at)
    ∙ number-formatted k

pub numbered-formatted_pages : (n : ℕ) → AreNumbered (formatted_pages n)
numbered-formatted_pages n = λ k d lt.
    let below : k < n = omega (arith, length-map-range_with_len formatted 0 n) in
    number-formatted_from 0 n k k d below (omega arith)

-- ---- growth

pub length-grown_to : (count : ℕ) (pages : List Page)
    → length (grown_to count pages) ≡ length pages + (count - length pages)
length-grown_to count pages =
    let added = length-map-range_with_len formatted (length pages) (count - length pages) in
    length-append pages (map formatted (range_with_len (length pages) (count - length pages)))
    ∙ ap (λ k. length pages + k) added

pub grown_to-has : (count : ℕ) (pages : List Page) → count ≤ length pages → grown_to count pages ≡ pages
grown_to-has count pages le =
    let none : count - length pages ≡ 0 = omega arith in
    ap (λ k. pages ++ map formatted (range_with_len (length pages) k)) none ∙ append-nil pages

pub grown_to_more : (count : ℕ) (pages : List Page) → length pages ≤ count
    → grown_to (count + 1) pages ≡ grown_to count pages ++ formatted count ∷ []
grown_to_more count pages le =
    let more : count + 1 - length pages ≡ count - length pages + 1 = omega arith in
    ap (λ k. pages ++ map formatted (range_with_len (length pages) k)) more
    ∙ ap (λ added. pages ++ added)
    (map-range_with_len_more formatted (length pages) (count - length pages) count (omega arith))
    ∙ sym (append_assoc pages (map formatted (range_with_len (length pages) (count - length pages)))
    (formatted count ∷ []))

pub numbered-grown_to : (count : ℕ) (pages : List Page) → AreNumbered pages → AreNumbered (grown_to count pages)
numbered-grown_to count pages numbered = λ k d lt.
    let added = map formatted (range_with_len (length pages) (count - length pages)) in
    elim (cases_lt k (length pages)) [
      | inl less ↦
          ap (λ (page : Page). page.number) (get_or_append_left pages added d k less) ∙ numbered k d less
      | inr past ↦
          let long = length-grown_to count pages in
          ap (λ (page : Page). page.number) (get_or-append_right pages added (length pages) k d refl past)
          ∙ number-formatted_from (length pages) (count - length pages) (k - length pages) k d
          (omega arith) (omega arith)
    ]

new_grown_by : (n more : ℕ) → grown_to (n + more) (formatted_pages n) ≡ formatted_pages (n + more)
new_grown_by n zero =
    let long = length-map-range_with_len formatted 0 n in
    let same : n + 0 ≡ n = omega arith in
    grown_to-has (n + 0) (formatted_pages n) (omega arith) ∙ ap formatted_pages (sym same)
new_grown_by n (suc more) =
    let long = length-map-range_with_len formatted 0 n in
    let next : n + suc more ≡ n + more + 1 = omega arith in
    ap (λ k. grown_to k (formatted_pages n)) next
    ∙ grown_to_more (n + more) (formatted_pages n) (omega arith)
    ∙ ap (λ pages. pages ++ formatted (n + more) ∷ []) (new_grown_by n more)
    ∙ sym (map-range_with_len_more formatted 0 (n + more) (n + more) (omega arith))
    ∙ ap formatted_pages (sym next)

pub new_grown : (n count : ℕ) → n ≤ count → grown_to count (formatted_pages n) ≡ formatted_pages count
new_grown n count le =
    let all : n + (count - n) ≡ count = omega arith in
    ap (λ k. grown_to k (formatted_pages n)) (sym all) ∙ new_grown_by n (count - n) ∙ ap formatted_pages all
