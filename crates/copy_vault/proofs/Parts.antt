-- An archive that is read page by page.
use Rattle.std.proofs.Common.{◌≡◌, ℕ, ◌+◌, ◌*◌, ◌<◌, ◌≤◌, List, [], ◌∷◌, ◌++◌, length, take, refl, sym, ap}
use Rattle.std.proofs.Common.{◌∙◌, subst, arith, suc, zero, replicate, inl, inr}
use Rattle.std.proofs.Math.ListN.{get_or-eq_default}
use Rattle.std.proofs.lemmas.Bool.{cases_lt}
use Rattle.std.proofs.lemmas.List.{append_assoc, append-nil, length-append, length_push, take_at, get_or_append_left}
use Rattle.std.proofs.lemmas.List.{get_or_push}
use Rattle.page_core.specs.declared.page.Page.{Page}
use Rattle.page_core.specs.Page.{IsPage, SpellsPage, page_bytes, volume_bytes}
use Rattle.page_core.proofs.Public.{length-page_bytes, pages_apart}
use Rattle.copy_vault.specs.declared.copy_id.CopyKind.{CopyKind}
use Rattle.copy_vault.specs.declared.copy_id.CopyKind.TheVariants.{Full, Inc}
use Rattle.copy_vault.specs.declared.header.ArchiveHeader.{ArchiveHeader}
use Rattle.page_decisions.specs.Decisions.{PageDecision, undecided, taken, kept, taken_pages, taken_count, decision_at}
use Rattle.page_decisions.specs.Decisions.{AreDecidedBelow, AreInPlace}
use Rattle.copy_vault.specs.Copy.{IsComplete, KeepsOfParent}
use Rattle.copy_vault.specs.Archive.{IsFront, IsHeader, IsKindOf, front_bytes, header_bytes}
use Rattle.copy_vault.specs.ArchiveFault.{HasBadPage, HasMore}
use Rattle.copy_vault.specs.ArchiveRead.{IsPart, IsRead, given_for, next_from}
use Rattle.page_decisions.proofs.Public.{count_within}
use Rattle.page_decisions.proofs.Public.{taken_push, taken_push_kept}
use Rattle.copy_vault.proofs.Fronts.{front_push, front_length, next_push, rise_last, all_last, volume_push}

-- ---- one decision more

decided_push : (pages : List PageDecision) (d : PageDecision) → AreDecidedBelow (length pages) pages
    → (¬ (d ≡ undecided)) → AreDecidedBelow (length (pages ++ d ∷ [])) (pages ++ d ∷ [])
decided_push pages d all some p lt e = elim (cases_lt p (length pages)) [
  | inl below ↦ all p below (sym (get_or_append_left pages (d ∷ []) undecided p below) ∙ e)
  | inr past ↦ some (sym (get_or_push pages d undecided p (omega (arith, length_push pages d))) ∙ e)
]

in_place_push : (pages : List PageDecision) (d : PageDecision) → AreInPlace pages
    → ((page : Page) → d ≡ taken page → page.number ≡ length pages) → AreInPlace (pages ++ d ∷ [])
in_place_push pages d all here p page e = elim (cases_lt p (length pages)) [
  | inl below ↦ all p page (sym (get_or_append_left pages (d ∷ []) undecided p below) ∙ e)
  | inr past ↦ elim (cases_lt (length pages) p) [
    | inl beyond ↦ let none : decision_at (pages ++ d ∷ []) p ≡ undecided =
        get_or-eq_default (pages ++ d ∷ []) undecided (omega (arith, length_push pages d)) in
        absurd (not_taken page (sym none ∙ e))
    | inr le ↦ let place : p ≡ length pages = omega arith in
        here page (sym (get_or_push pages d undecided p (sym place)) ∙ e) ∙ sym place
  ]
]
  where
    not_taken : (page : Page) → ¬ (undecided ≡ taken page)
    not_taken page e = cc

kept_is_decided : ¬ (kept ≡ undecided)
kept_is_decided e = cc

taken_is_decided : (page : Page) → ¬ (taken page ≡ undecided)
taken_is_decided page e = cc

kept_is_not_taken : (page : Page) → ¬ (kept ≡ taken page)
kept_is_not_taken page e = cc

same_taken : (p q : Page) → taken p ≡ taken q → p ≡ q
same_taken p q e = cc

pub part_push_kept : (h : ArchiveHeader) (pages : List PageDecision) → IsPart h pages → length pages < h.pages
    → IsPart h (pages ++ kept ∷ [])
part_push_kept h pages part below = record {
  front = subst (IsFront h) (sym (taken_push_kept pages)) part.front;
  decided = decided_push pages kept part.decided kept_is_decided;
  in_place = in_place_push pages kept part.in_place (λ page e. absurd (kept_is_not_taken page e));
  next = omega (arith, part.next, length_push pages kept, ap (next_from 0) (taken_push_kept pages));
  within = omega (arith, length_push pages kept);
}

pub part_kept : (h : ArchiveHeader) (n : ℕ) (pages : List PageDecision) → IsPart h pages → length pages + n ≤ h.pages
    → IsPart h (pages ++ replicate n kept)
part_kept h zero pages part within = subst (IsPart h) (sym (append-nil pages)) part
part_kept h (suc n) pages part within =
    subst (IsPart h) (append_assoc pages (kept ∷ []) (replicate n kept))
    (part_kept h n (pages ++ kept ∷ []) (part_push_kept h pages part (omega arith))
    (omega (arith, length_push pages kept)))

pub read_push : (h : ArchiveHeader) (pages : List PageDecision) (page : Page) → IsPart h pages
    → length (taken_pages pages) < h.taken → IsPage page → page.number ≡ length pages → page.number < h.pages
    → IsRead h (pages ++ taken page ∷ [])
read_push h pages page part left valid place below =
    let more : taken_pages (pages ++ taken page ∷ []) ≡ taken_pages pages ++ page ∷ [] =
    taken_push pages (taken page) in
    let next : next_from 0 (taken_pages (pages ++ taken page ∷ [])) ≡ page.number + 1 =
    ap (next_from 0) more ∙ next_push 0 (taken_pages pages) page in
    record {
      part = record {
        front = subst (IsFront h) (sym more) (front_push h (taken_pages pages) page part.front left valid
            (omega (arith, part.next, place)) below);
        decided = decided_push pages (taken page) part.decided (taken_is_decided page);
        in_place = in_place_push pages (taken page) part.in_place
            (λ other e. ap (λ (p : Page). p.number) (sym (same_taken page other e)) ∙ place);
        next = omega (arith, next, place, length_push pages (taken page));
        within = omega (arith, place, below, length_push pages (taken page));
      };
      next = omega (arith, next, place, length_push pages (taken page));
    }

pub given_push : (h : ArchiveHeader) (old new : List PageDecision) (page : Page) (bytes : List ℕ)
    → taken_pages new ≡ taken_pages old ++ page ∷ [] → bytes ≡ page_bytes page
    → given_for h new ≡ given_for h old ++ bytes
given_push h old new page bytes more is =
    ap (λ (ps : List Page). front_bytes h ps) more
    ∙ ap (λ (bs : List ℕ). header_bytes h ++ bs) (volume_push (taken_pages old) page)
    ∙ sym (append_assoc (header_bytes h) (volume_bytes (taken_pages old)) (page_bytes page))
    ∙ ap (λ (bs : List ℕ). given_for h old ++ bs) (sym is)

-- no page was taken yet
pub read_none : (h : ArchiveHeader) → IsHeader h → IsRead h []
read_none h valid = record {
  part = record {
    front = record { header = valid; few = omega arith; valid = tt; rising = tt; within = tt };
    decided = λ p lt. absurd (omega arith);
    in_place = λ p page e. absurd (nothing p page e);
    next = omega arith;
    within = omega arith;
  };
  next = refl;
}
  where
    nothing : (p : ℕ) (page : Page) → ¬ (decision_at [] p ≡ taken page)
    nothing p page e = cc

-- ---- what refuses the next bytes

pub has_more : (h : ArchiveHeader) (pages : List PageDecision) (rest : List ℕ) → IsFront h (taken_pages pages)
    → h.taken ≤ length (taken_pages pages) → 0 < length rest → HasMore (given_for h pages ++ rest)
has_more h pages rest front full some = record {
  header = h;
  pages = taken_pages pages;
  rest = rest;
  begins = record { front = front; spelled = refl };
  all = omega (arith, front.few);
  some = some;
}

pub has_bad_page : (h : ArchiveHeader) (pages : List PageDecision) (at : ℕ) (bytes rest : List ℕ)
    → IsFront h (taken_pages pages) → length (taken_pages pages) < h.taken
    → at ≡ 64 + 512 * length (taken_pages pages) → length bytes ≡ 512
    → ((page : Page) → IsFront h (taken_pages pages ++ page ∷ []) → bytes ≡ page_bytes page → ⊥)
    → HasBadPage (given_for h pages ++ (bytes ++ rest)) at
has_bad_page h pages at bytes rest front left place wide none = record {
  header = h;
  pages = taken_pages pages;
  rest = bytes ++ rest;
  begins = record { front = front; spelled = refl };
  place = place ∙ sym (front_length h (taken_pages pages) front.valid);
  left = left;
  whole = omega (arith, length-append bytes rest);
  none = λ next.
      let valid : IsPage next.page = all_last IsPage (taken_pages pages) next.page next.front.valid in
      none next.page next.front
      (sym (take_at bytes rest 512 wide) ∙ ap (take 512) next.spelled
      ∙ take_at (page_bytes next.page) next.more 512 (length-page_bytes next.page valid.count));
}

-- a page that is not above those before it, or past the page count, may not follow
pub out_of_order : (h : ArchiveHeader) (pages : List PageDecision) (page other : Page) (bytes : List ℕ)
    → IsRead h pages → SpellsPage page bytes → IsFront h (taken_pages pages ++ other ∷ []) → bytes ≡ page_bytes other
    → (length pages ≤ page.number) × (page.number < h.pages)
out_of_order h pages page other bytes read spells front is =
    let same : page ≡ other = pages_apart page other [] [] spells.valid
    (all_last IsPage (taken_pages pages) other front.valid)
    (ap (λ (bs : List ℕ). bs ++ []) (sym spells.spelled ∙ is)) in
    let rises = rise_last 0 (taken_pages pages) other front.rising in
    let below = all_last (λ (p : Page). p.number < h.pages) (taken_pages pages) other front.within in
    let number : page.number ≡ other.number = ap (λ (p : Page). p.number) same in (
      omega (arith, rises, read.next, number),
      omega (arith, below, number),
    )

-- ---- once every page was read

all_taken : (pages : List PageDecision) → taken_count pages ≡ length pages → (p : ℕ)
    → ¬ (decision_at pages p ≡ kept)
all_taken [] e p is = cc
all_taken (undecided ∷ pages) e p is = omega (arith, count_within pages)
all_taken (kept ∷ pages) e p is = omega (arith, count_within pages)
all_taken (taken page ∷ pages) e zero is = cc
all_taken (taken page ∷ pages) e (suc p) is = all_taken pages (omega arith) p is

keeps_of : (kind : CopyKind) (h : ArchiveHeader) (pages : List PageDecision) → IsKindOf kind h
    → length pages ≡ h.pages → taken_count pages ≡ h.taken → KeepsOfParent kind pages
keeps_of Full h pages k count all is p e = all_taken pages (omega (arith, k, count, all)) p e
keeps_of (Inc parent) h pages k count all is p e = not_full parent is
  where
    not_full : (parent : ℕ) → ¬ (Inc parent ≡ Full)
    not_full parent e = cc

pub part_complete : (h : ArchiveHeader) (pages : List PageDecision) → IsPart h pages → length pages ≡ h.pages
    → taken_count pages ≡ h.taken → IsComplete h.kind pages
part_complete h pages part count all = record {
  decided = part.decided;
  in_place = part.in_place;
  keeps = keeps_of h.kind h pages part.front.header.kind count all;
}
