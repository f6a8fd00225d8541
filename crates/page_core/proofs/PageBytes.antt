-- The bytes of a page, field by field.
use Rattle.std.proofs.Common.{◌≡◌, ℕ, ◌+◌, ◌-◌, ◌≤◌, List, [], ◌∷◌, ◌++◌, length, take, drop, refl, sym, ap, ◌∙◌, arith}
use Rattle.std.proofs.Common.{lit≤}
use Rattle.std.specs.Prelude.{slice_range}
use Rattle.std.specs.Int.{w32, w64, to_le_bytes, from_le_bytes}
use Rattle.std.specs.List.{flat_map, AllByRecursion}
use Rattle.std.proofs.lemmas.List.{take_all, take_at, drop_at, take-append-drop, length-append, length-take}
use Rattle.std.proofs.lemmas.List.{length-drop}
use Rattle.std.proofs.lemmas.Slice.{take-put_mid}
use Rattle.std.proofs.lemmas.Nat.{from_le_bytes-to_le_bytes_4, from_le_bytes-to_le_bytes_8}
use borrow.Rule.Slice.PartMut.{put_mid}
use Rattle.page_core.specs.declared.page.Page.{Page}
use Rattle.page_core.specs.Page.{page_bytes, volume_bytes, IsPage}
use Rattle.page_core.proofs.Pieces.{grow, length-pieces}
use Rattle.page_core.proofs.EightBytes.{eight_bytes, same_numbers}

-- a list of 512 after writes to its four parts
pub four_parts : (bytes a b c d : List ℕ) → length bytes ≡ 512 → length a ≡ 4 → length b ≡ 4 → length c ≡ 8
    → length d ≡ 496
    → put_mid 16 (length (put_mid 8 8 (put_mid 4 4 (a ++ drop 4 bytes) b) c) - 16)
    (put_mid 8 8 (put_mid 4 4 (a ++ drop 4 bytes) b) c) d ≡ a ++ b ++ c ++ d
four_parts bytes a b c d len la lb lc ld =
    let whole : length (a ++ drop 4 bytes) ≡ 512 = simp (length-append, length-drop) (omega arith) in
    let one = put_mid 4 4 (a ++ drop 4 bytes) b in
    let two = put_mid 8 8 one c in
    let one_long : length one ≡ 512 = simp (length-append, length-take, length-drop) (omega arith) in
    let two_long : length two ≡ 512 = simp (length-append, length-take, length-drop) (omega arith) in
    let first : take 8 one ≡ a ++ b =
    take-put_mid 4 4 (a ++ drop 4 bytes) b 8 (omega arith) (omega arith)
    ∙ ap (λ (front : List ℕ). front ++ b) (take_at a (drop 4 bytes) 4 la) in
    let second : take 16 two ≡ a ++ b ++ c =
    take-put_mid 8 8 one c 16 (omega arith) (omega arith) ∙ ap (λ (front : List ℕ). front ++ c) first in
    let third : take (16 + length d) (put_mid 16 (length two - 16) two d) ≡ a ++ b ++ c ++ d =
    take-put_mid 16 (length two - 16) two d (16 + length d) refl (omega arith)
    ∙ ap (λ (front : List ℕ). front ++ d) second in
    let end : length (put_mid 16 (length two - 16) two d) ≤ 16 + length d =
    simp (length-append, length-take, length-drop) (omega arith) in
    sym (take_all (16 + length d) (put_mid 16 (length two - 16) two d) end) ∙ third

-- what stands where
pub number_at : (page : Page) → slice_range (page_bytes page) 0 4 ≡ to_le_bytes w32 page.number
unfolding page_bytes
number_at page = refl

pub format_at : (page : Page) → slice_range (page_bytes page) 4 8 ≡ to_le_bytes w32 1
unfolding page_bytes
format_at page = refl

pub lsn_at : (page : Page) → slice_range (page_bytes page) 8 16 ≡ to_le_bytes w64 page.lsn
unfolding page_bytes
lsn_at page = refl

pub slots_at : (page : Page) → drop 16 (page_bytes page) ≡ flat_map (to_le_bytes w64) page.slots
unfolding page_bytes
slots_at page = refl

pub length-page_bytes : (page : Page) → length page.slots ≡ 62 → length (page_bytes page) ≡ 512
unfolding page_bytes
length-page_bytes page count = omega (arith, length-pieces (to_le_bytes w64) 8 eight_bytes page.slots)

-- bytes that have the fields of a page are the page's
pub from_fields : (page : Page) (bytes : List ℕ) → slice_range bytes 0 4 ≡ to_le_bytes w32 page.number
    → slice_range bytes 4 8 ≡ to_le_bytes w32 1
    → slice_range bytes 8 16 ≡ to_le_bytes w64 page.lsn → drop 16 bytes ≡ flat_map (to_le_bytes w64) page.slots
    → bytes ≡ page_bytes page
unfolding page_bytes
from_fields page bytes number format lsn slots =
    let p1 = grow bytes (to_le_bytes w32 page.number) (to_le_bytes w32 1) 4 8 (lit≤ tt) (sym number) (sym format) in
    let p2 = grow bytes (to_le_bytes w32 page.number ++ to_le_bytes w32 1) (to_le_bytes w64 page.lsn) 8 16 (lit≤ tt) p1
    (sym lsn) in
    sym (take-append-drop 16 bytes) ∙ ap (λ (front : List ℕ). front ++ drop 16 bytes) (sym p2)
    ∙ ap (λ (rest : List ℕ). (to_le_bytes w32 page.number ++ to_le_bytes w32 1 ++ to_le_bytes w64 page.lsn)
    ++ rest) slots

-- no two pages have the same bytes
pub same_page : (p q : Page) → IsPage p → IsPage q → page_bytes p ≡ page_bytes q → p ≡ q
same_page p q p_valid q_valid e =
    let numbers : p.number ≡ q.number =
    sym (from_le_bytes-to_le_bytes_4 p.number (omega (arith, p_valid.number)))
    ∙ ap (from_le_bytes w32) (sym (number_at p) ∙ ap (λ bs. slice_range bs 0 4) e ∙ number_at q)
    ∙ from_le_bytes-to_le_bytes_4 q.number (omega (arith, q_valid.number)) in
    let lsns : p.lsn ≡ q.lsn =
    sym (from_le_bytes-to_le_bytes_8 p.lsn p_valid.lsn)
    ∙ ap (from_le_bytes w64) (sym (lsn_at p) ∙ ap (λ bs. slice_range bs 8 16) e ∙ lsn_at q)
    ∙ from_le_bytes-to_le_bytes_8 q.lsn q_valid.lsn in
    let slots : p.slots ≡ q.slots =
    same_numbers p.slots q.slots p_valid.slots q_valid.slots (p_valid.count ∙ sym q_valid.count)
    (sym (slots_at p) ∙ ap (drop 16) e ∙ slots_at q) in
    rw (numbers, lsns, slots) refl

-- no page's bytes begin another's
pub pages_apart : (p q : Page) (x y : List ℕ) → IsPage p → IsPage q → page_bytes p ++ x ≡ page_bytes q ++ y → p ≡ q
pages_apart p q x y p_valid q_valid e =
    same_page p q p_valid q_valid
    (sym (take_at (page_bytes p) x 512 (length-page_bytes p p_valid.count)) ∙ ap (take 512) e
    ∙ take_at (page_bytes q) y 512 (length-page_bytes q q_valid.count))

pub same_pages : (xs ys : List Page) → AllByRecursion IsPage xs → AllByRecursion IsPage ys
    → volume_bytes xs ≡ volume_bytes ys → xs ≡ ys
same_pages [] [] xs_valid ys_valid e = refl
same_pages [] (y ∷ ys) xs_valid ys_valid e =
    absurd (omega (
      arith,
      ap length e,
      length-append (page_bytes y) (volume_bytes ys),
      length-page_bytes y ys_valid.0.count,
    ))
same_pages (x ∷ xs) [] xs_valid ys_valid e =
    absurd (omega (
      arith,
      ap length e,
      length-append (page_bytes x) (volume_bytes xs),
      length-page_bytes x xs_valid.0.count,
    ))
same_pages (x ∷ xs) (y ∷ ys) xs_valid ys_valid e =
    let first : x ≡ y = pages_apart x y (volume_bytes xs) (volume_bytes ys) xs_valid.0 ys_valid.0 e in
    let others : volume_bytes xs ≡ volume_bytes ys =
    sym (drop_at (page_bytes x) (volume_bytes xs) 512 (length-page_bytes x xs_valid.0.count)) ∙ ap (drop 512) e
    ∙ drop_at (page_bytes y) (volume_bytes ys) 512 (length-page_bytes y ys_valid.0.count) in
    rw (first, same_pages xs ys xs_valid.1 ys_valid.1 others) refl
