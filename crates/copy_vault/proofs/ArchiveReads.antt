-- What the bytes that were read of an archive say of the whole input.
use Rattle.std.proofs.Common.{◌≡◌, ℕ, ◌+◌, ◌<◌, ◌≤◌, List, [], ◌∷◌, ◌++◌, length, refl, sym, ap}
use Rattle.std.proofs.Common.{◌∙◌, subst, arith, suc, inl, inr}
use Rattle.std.specs.Prelude.{Option, Some, Result, Ok, Err, IfOk, IfErr, IfSome, MatchResult}
use Rattle.std.specs.List.{AllByRecursion}
use Rattle.std.specs.Io.KnownBytes.{Consumes}
use Rattle.std.proofs.KnownBytes.{Consumes-trans}
use Rattle.std.proofs.lemmas.Bool.{cases_lt}
use Rattle.std.proofs.lemmas.List.{append_assoc, append-nil, length-append, nil_from_length, take_at}
use Rattle.page_core.specs.declared.page.Page.{Page}
use Rattle.page_core.specs.Page.{volume_bytes}
use Rattle.page_core.proofs.Public.{at_some}
use Rattle.page_core.proofs.Public.{same_pages}
use Rattle.copy_vault.specs.declared.archive_fault.ArchiveFault.{ArchiveFault}
use Rattle.copy_vault.specs.declared.archive_fault.ArchiveFault.TheVariants.{OutOfMemory, BadArchive}
use Rattle.copy_vault.specs.declared.archive_fault.ArchiveFault.TheVariants.{CountDiffers, ReadFault}
use Rattle.copy_vault.specs.declared.header.ArchiveHeader.{ArchiveHeader}
use Rattle.page_decisions.specs.Decisions.{PageDecision, undecided, taken, kept, taken_pages, taken_count, decision_at}
use Rattle.copy_vault.specs.Copy.{CopyView}
use Rattle.page_decisions.specs.Decisions.{AreDecidedBelow, AreInPlace}
use Rattle.copy_vault.specs.Archive.{IsArchived, IsFront, IsHeader, RiseFrom, SpellsCopy, bytes_in, front_bytes}
use Rattle.copy_vault.specs.Archive.{IsKindOf, header_in, header_of}
use Rattle.page_core.specs.declared.format.Format.{Format}
use Rattle.copy_vault.specs.declared.copy_id.CopyKind.{CopyKind}
use Rattle.copy_vault.specs.declared.copy_id.CopyKind.TheVariants.{Full, Inc}
use Rattle.copy_vault.specs.ArchiveFault.{Begins, EndsEarly, GaveNoFault, HasFault, HoldsFault, IsOutside, Refuses}
use Rattle.copy_vault.specs.ArchiveFault.{SpellsHeader}
use Rattle.copy_vault.specs.ArchiveRead.{EndsWrongly, IsPart, given_for}
use Rattle.copy_vault.proofs.Headers.{same_front}
use Rattle.copy_vault.proofs.Fronts.{ends_none, front_length, holds_none}
use Rattle.copy_vault.proofs.Parts.{part_complete}

-- ---- fewer bytes than a header

pub begins_long : (bytes : List ℕ) (h : ArchiveHeader) (pages : List Page) (rest : List ℕ) → Begins bytes h pages rest
    → 64 ≤ length bytes
begins_long bytes h pages rest begins =
    omega (
      arith,
      ap length begins.spelled,
      length-append (front_bytes h pages) rest,
      front_length h pages begins.front.valid,
    )

pub holds_none_short : (given : List ℕ) → length given < 64 → (fault : ArchiveFault) → ¬ HoldsFault given fault
holds_none_short given short (BadArchive at) (inl bad) = omega (arith, bad.1)
holds_none_short given short (BadArchive at) (inr bad) =
    omega (arith, begins_long given bad.header bad.pages bad.rest bad.begins)
holds_none_short given short CountDiffers bad =
    omega (arith, begins_long given bad.header bad.pages bad.rest bad.begins)
holds_none_short given short OutOfMemory bad = bad
holds_none_short given short ReadFault bad = bad

pub refuses_short : (given rest : List ℕ) → length given < 64 → rest ≡ [] → Refuses (given ++ rest) (BadArchive 0)
refuses_short given rest short none =
    inr (inl (refl, omega (arith, length-append given rest, ap length none)))

-- ---- the header and what follows it

pub gave_more : (old mid new : Option (List ℕ)) (header : List ℕ) (fault : ArchiveFault) → Consumes old mid header
    → GaveNoFault header mid new fault → GaveNoFault [] old new fault
gave_more old mid new header ReadFault had gave =
    (header ++ gave.0, (Consumes-trans old mid new header gave.0 had gave.1.0, gave.1.1))
gave_more old mid new header OutOfMemory had gave = tt
gave_more old mid new header (BadArchive at) had gave = tt
gave_more old mid new header CountDiffers had gave = tt

-- ---- a copy and its bytes

-- a taken page stands at its number, counted from this one on
AreInPlaceFrom : ℕ → List PageDecision → Type 0
AreInPlaceFrom n pages = (p : ℕ) (page : Page) → decision_at pages p ≡ taken page → page.number ≡ n + p

next_places : (n : ℕ) (d : PageDecision) (pages : List PageDecision) → AreInPlaceFrom n (d ∷ pages)
    → AreInPlaceFrom (n + 1) pages
unfolding AreInPlaceFrom
next_places n d pages all p page e = all (suc p) page e ∙ omega arith

rise_in_place : (n m : ℕ) (pages : List PageDecision) → AreInPlaceFrom n pages → m ≤ n
    → RiseFrom m (taken_pages pages)
unfolding AreInPlaceFrom
rise_in_place n m [] all le = tt
rise_in_place n m (undecided ∷ pages) all le =
    rise_in_place (n + 1) m pages (next_places n undecided pages all) (omega arith)
rise_in_place n m (kept ∷ pages) all le =
    rise_in_place (n + 1) m pages (next_places n kept pages all) (omega arith)
rise_in_place n m (taken page ∷ pages) all le =
    let place : page.number ≡ n = all 0 page refl ∙ omega arith in (
      omega arith,
      rise_in_place (n + 1) (page.number + 1) pages (next_places n (taken page) pages all) (omega arith),
    )

within_in_place : (n end : ℕ) (pages : List PageDecision) → AreInPlaceFrom n pages → n + length pages ≤ end
    → AllByRecursion (λ page. page.number < end) (taken_pages pages)
unfolding AreInPlaceFrom
within_in_place n end [] all le = tt
within_in_place n end (undecided ∷ pages) all le =
    within_in_place (n + 1) end pages (next_places n undecided pages all) (omega arith)
within_in_place n end (kept ∷ pages) all le =
    within_in_place (n + 1) end pages (next_places n kept pages all) (omega arith)
within_in_place n end (taken page ∷ pages) all le =
    let place : page.number ≡ n = all 0 page refl ∙ omega arith in (
      omega arith,
      within_in_place (n + 1) end pages (next_places n (taken page) pages all) (omega arith),
    )

from_start : (pages : List PageDecision) → AreInPlace pages → AreInPlaceFrom 0 pages
unfolding AreInPlaceFrom
from_start pages all p page e = all p page e ∙ omega arith

-- the format says nothing of the rest of a header
kind_in : (f : Format) (kind : CopyKind) (copy : CopyView) → IsKindOf kind (header_of copy)
    → IsKindOf kind (header_in f copy)
kind_in f Full copy is = is
kind_in f (Inc parent) copy is = is

pub valid_in : (f : Format) (copy : CopyView) → IsHeader (header_of copy) → IsHeader (header_in f copy)
valid_in f copy valid = record {
  some_pages = valid.some_pages;
  few_pages = valid.few_pages;
  least_id = valid.least_id;
  most_id = valid.most_id;
  kind = kind_in f copy.kind copy valid.kind;
  begin_fits = valid.begin_fits;
  begin_at_record = valid.begin_at_record;
  redo_at_record = valid.redo_at_record;
  redo_past_header = valid.redo_past_header;
  redo_first = valid.redo_first;
}

kind_out : (f : Format) (kind : CopyKind) (copy : CopyView) → IsKindOf kind (header_in f copy)
    → IsKindOf kind (header_of copy)
kind_out f Full copy is = is
kind_out f (Inc parent) copy is = is

valid_out : (f : Format) (copy : CopyView) → IsHeader (header_in f copy) → IsHeader (header_of copy)
valid_out f copy valid = record {
  some_pages = valid.some_pages;
  few_pages = valid.few_pages;
  least_id = valid.least_id;
  most_id = valid.most_id;
  kind = kind_out f copy.kind copy valid.kind;
  begin_fits = valid.begin_fits;
  begin_at_record = valid.begin_at_record;
  redo_at_record = valid.redo_at_record;
  redo_past_header = valid.redo_past_header;
  redo_first = valid.redo_first;
}

pub front_of : (f : Format) (copy : CopyView) → IsArchived copy → IsFront (header_in f copy) (taken_pages copy.pages)
front_of f copy valid = record {
  header = valid_in f copy valid.header;
  few = omega arith;
  valid = valid.pages;
  rising = rise_in_place 0 0 copy.pages (from_start copy.pages valid.complete.in_place) (omega arith);
  within = within_in_place 0 (length copy.pages) copy.pages (from_start copy.pages valid.complete.in_place)
      (omega arith);
}

-- the first page that is taken has at least this number
first_above : (n : ℕ) (pages : List PageDecision) (page : Page) (rest : List Page) → AreInPlaceFrom n pages
    → page ∷ rest ≡ taken_pages pages → n ≤ page.number
unfolding AreInPlaceFrom
first_above n [] page rest all e = cc
first_above n (undecided ∷ pages) page rest all e =
    let le = first_above (n + 1) pages page rest (next_places n undecided pages all) e in omega arith
first_above n (kept ∷ pages) page rest all e =
    let le = first_above (n + 1) pages page rest (next_places n kept pages all) e in omega arith
first_above n (taken other ∷ pages) page rest all e =
    let place : other.number ≡ n = all 0 other refl ∙ omega arith in
    let same : page ≡ other = cc in
    omega (arith, ap (λ (p : Page). p.number) same)

AreDecided : List PageDecision → Type 0
AreDecided pages = AreDecidedBelow (length pages) pages

next_decided : (d : PageDecision) (pages : List PageDecision) → AreDecided (d ∷ pages) → AreDecided pages
unfolding AreDecided
next_decided d pages all p lt e = all (suc p) (omega arith) e

-- what is decided of the pages is known by their count and by those that were taken
same_decisions : (n : ℕ) (xs ys : List PageDecision) → length xs ≡ length ys → AreInPlaceFrom n xs
    → AreInPlaceFrom n ys → AreDecided xs → AreDecided ys → taken_pages xs ≡ taken_pages ys → xs ≡ ys
unfolding AreInPlaceFrom AreDecided
same_decisions n [] [] count xs_in ys_in xs_all ys_all e = refl
same_decisions n [] (y ∷ ys) count xs_in ys_in xs_all ys_all e = absurd (omega arith)
same_decisions n (x ∷ xs) [] count xs_in ys_in xs_all ys_all e = absurd (omega arith)
same_decisions n (undecided ∷ xs) (y ∷ ys) count xs_in ys_in xs_all ys_all e =
    absurd (xs_all 0 (omega arith) refl)
same_decisions n (x ∷ xs) (undecided ∷ ys) count xs_in ys_in xs_all ys_all e =
    absurd (ys_all 0 (omega arith) refl)
same_decisions n (kept ∷ xs) (kept ∷ ys) count xs_in ys_in xs_all ys_all e =
    ap (λ (ds : List PageDecision). kept ∷ ds)
    (same_decisions (n + 1) xs ys (omega arith) (next_places n kept xs xs_in) (next_places n kept ys ys_in)
    (next_decided kept xs xs_all) (next_decided kept ys ys_all) e)
same_decisions n (taken x ∷ xs) (kept ∷ ys) count xs_in ys_in xs_all ys_all e =
    let place : x.number ≡ n = xs_in 0 x refl ∙ omega arith in
    let above = first_above (n + 1) ys x (taken_pages xs) (next_places n kept ys ys_in) e in
    absurd (omega arith)
same_decisions n (kept ∷ xs) (taken y ∷ ys) count xs_in ys_in xs_all ys_all e =
    let place : y.number ≡ n = ys_in 0 y refl ∙ omega arith in
    let above = first_above (n + 1) xs y (taken_pages ys) (next_places n kept xs xs_in) (sym e) in
    absurd (omega arith)
same_decisions n (taken x ∷ xs) (taken y ∷ ys) count xs_in ys_in xs_all ys_all e =
    let here : x ≡ y = cc in
    let others : taken_pages xs ≡ taken_pages ys = cc in
    ap (λ (p : Page). taken p ∷ xs) here
    ∙ ap (λ (ds : List PageDecision). taken y ∷ ds)
    (same_decisions (n + 1) xs ys (omega arith) (next_places n (taken x) xs xs_in) (next_places n (taken y) ys ys_in)
    (next_decided (taken x) xs xs_all) (next_decided (taken y) ys ys_all) others)

-- two copies with the same bytes are one
pub same_copy : (a b : CopyView) (bytes : List ℕ) → SpellsCopy a bytes → SpellsCopy b bytes → a ≡ b
unfolding AreDecided
same_copy a b bytes a_spells b_spells =
    let a_valid = a_spells.valid in
    let b_valid = b_spells.valid in
    let both = same_front (header_in a_spells.format a) (header_in b_spells.format b) (volume_bytes (taken_pages a.pages))
    (volume_bytes (taken_pages b.pages)) (valid_in a_spells.format a a_valid.header)
    (valid_in b_spells.format b b_valid.header) (sym a_spells.spelled ∙ b_spells.spelled) in
    let header = both.0 in
    let id : a.id ≡ b.id = ap (λ (h : ArchiveHeader). h.id) header in
    let kind : a.kind ≡ b.kind = ap (λ (h : ArchiveHeader). h.kind) header in
    let begin : a.begin ≡ b.begin = ap (λ (h : ArchiveHeader). h.begin) header in
    let redo : a.redo ≡ b.redo = ap (λ (h : ArchiveHeader). h.redo) header in
    let count : length a.pages ≡ length b.pages = ap (λ (h : ArchiveHeader). h.pages) header in
    let takens : taken_pages a.pages ≡ taken_pages b.pages =
    same_pages (taken_pages a.pages) (taken_pages b.pages) a_valid.pages b_valid.pages both.1 in
    let pages : a.pages ≡ b.pages =
    same_decisions 0 a.pages b.pages count (from_start a.pages a_valid.complete.in_place)
    (from_start b.pages b_valid.complete.in_place) a_valid.complete.decided b_valid.complete.decided takens in
    rw (id, kind, begin, redo, pages) refl

-- ---- nothing is wrong with the bytes of a copy

pub no_fault : (copy : CopyView) (input : List ℕ) → SpellsCopy copy input → (fault : ArchiveFault)
    → ¬ HasFault input fault
no_fault copy input spells fault (inl bad) =
    let f = spells.format in
    let front = front_of f copy spells.valid in
    let whole : input ≡ bytes_in f copy ++ [] = spells.spelled ∙ sym (append-nil (bytes_in f copy)) in
    holds_none (header_in f copy) (taken_pages copy.pages) [] front (omega arith) (λ all. refl) fault
    (subst (λ (bs : List ℕ). HoldsFault bs fault) whole bad)
no_fault copy input spells fault (inr bad) =
    let f = spells.format in
    ends_none (header_in f copy) (taken_pages copy.pages) (front_of f copy spells.valid) refl fault
    (subst (λ (bs : List ℕ). EndsEarly bs fault) spells.spelled bad)

pub only_outside : (copy : CopyView) (input : List ℕ) → SpellsCopy copy input → (fault : ArchiveFault)
    → Refuses input fault → IsOutside fault
only_outside copy input spells OutOfMemory bad = tt
only_outside copy input spells ReadFault bad = tt
only_outside copy input spells (BadArchive at) bad = no_fault copy input spells (BadArchive at) bad
only_outside copy input spells CountDiffers bad = no_fault copy input spells CountDiffers bad

-- ---- where the input ends, or the reader stops

-- what was given is the header and what was read behind it
pub regroup : (given header read pending : List ℕ) → given ≡ header ++ read
    → given ++ pending ≡ header ++ (read ++ pending)
regroup given header read pending is = ap (λ (bs : List ℕ). bs ++ pending) is ∙ append_assoc header read pending

pub refuses_end : (h : ArchiveHeader) (pages : List PageDecision) (pending : List ℕ) (fault : ArchiveFault)
    → IsFront h (taken_pages pages) → length pending < 512 → (taken_count pages ≡ h.taken → length pending ≡ 0)
    → EndsWrongly (taken_count pages) h.taken (length pending) fault → Refuses (given_for h pages ++ pending) fault
refuses_end h pages pending (BadArchive at) front short last wrong = inr (inr (record {
  header = h;
  pages = taken_pages pages;
  rest = pending;
  begins = record { front = front; spelled = refl };
  place = wrong.1 ∙ sym (front_length h (taken_pages pages) front.valid);
  left = elim (cases_lt (taken_count pages) h.taken) [
    | inl lt ↦ lt
    | inr ge ↦ let none = last (omega (arith, front.few)) in absurd (omega (arith, wrong.0))
  ];
  some = wrong.0;
  short = short;
}))
refuses_end h pages pending CountDiffers front short last wrong =
    let none : pending ≡ [] = nil_from_length pending wrong.0 in
    inr (record {
      header = h;
      pages = taken_pages pages;
      begins = record { front = front; spelled = ap (λ (bs : List ℕ). given_for h pages ++ bs) none };
      left = wrong.1;
    })
refuses_end h pages pending OutOfMemory front short last wrong = absurd wrong
refuses_end h pages pending ReadFault front short last wrong = absurd wrong

pub none_in_failed : (h : ArchiveHeader) (pages : List PageDecision) (header read pending : List ℕ)
    → given_for h pages ≡ header ++ read → IsFront h (taken_pages pages) → length pending < 512
    → (taken_count pages ≡ h.taken → length pending ≡ 0) → (fault : ArchiveFault)
    → ¬ HoldsFault (header ++ (read ++ pending)) fault
none_in_failed h pages header read pending is front short last fault bad =
    holds_none h (taken_pages pages) pending front short (λ all. nil_from_length pending (last all)) fault
    (subst (λ (bs : List ℕ). HoldsFault bs fault) (sym (regroup (given_for h pages) header read pending is)) bad)

-- what refuses these bytes refuses the input
pub refuses_input : (given header read more rest : List ℕ) (fault : ArchiveFault) → given ≡ header ++ read
    → Refuses (given ++ (more ++ rest)) fault → Refuses (header ++ ((read ++ more) ++ rest)) fault
refuses_input given header read more rest fault is =
    subst (λ (bs : List ℕ). Refuses bs fault) (regroup given header read (more ++ rest) is
    ∙ ap (λ (bs : List ℕ). header ++ bs) (sym (append_assoc read more rest)))

-- the header is misspelt
pub refuses_header : (header rest : List ℕ) → length header ≡ 64 → (¬ SpellsHeader header)
    → Refuses (header ++ rest) (BadArchive 0)
refuses_header header rest long none = inl (inl (
  refl,
  omega (arith, length-append header rest),
  λ spells. none (subst SpellsHeader (take_at header rest 64 long) spells),
))

-- what was read is a copy
pub spells_read : (h : ArchiveHeader) (pages : List PageDecision) → IsPart h pages → length pages ≡ h.pages
    → taken_count pages ≡ h.taken
    → SpellsCopy (record { id = h.id; kind = h.kind; begin = h.begin; redo = h.redo; pages = pages })
    (given_for h pages)
spells_read h pages part count all =
    let copy : CopyView = record { id = h.id; kind = h.kind; begin = h.begin; redo = h.redo; pages = pages } in
    let same : header_in h.format copy ≡ h = rw (count, all) refl in
    record {
      valid = record {
        header = valid_out h.format copy (subst IsHeader (sym same) part.front.header);
        complete = part_complete h pages part count all;
        pages = part.front.valid;
      };
      format = h.format;
      spelled = ap (λ (k : ArchiveHeader). front_bytes k (taken_pages pages)) (sym same);
    }

-- what is read of a copy's bytes
pub only_read : (r : Result CopyView ArchiveFault) (old : Option (List ℕ)) (copy : CopyView) (input : List ℕ)
    → old ≡ Some input → SpellsCopy copy input → IfOk r (λ read. IfSome old (SpellsCopy read))
    → IfErr r (λ fault. IfSome old (λ bs. Refuses bs fault)) → MatchResult r (λ read. read ≡ copy) IsOutside
only_read (Ok read) old copy input e spells found first =
    let same = at_some old input (SpellsCopy read) e found in
    same_copy read copy input same spells
only_read (Err fault) old copy input e spells found first =
    only_outside copy input spells fault (at_some old input (λ bs. Refuses bs fault) e first)
