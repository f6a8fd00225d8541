-- A header and the first pages behind it.
use Rattle.std.proofs.Common.{◌≡◌, ℕ, ◌+◌, ◌*◌, ◌<◌, ◌≤◌, List, [], ◌∷◌, ◌++◌, length, take, drop, refl, sym, ap}
use Rattle.std.proofs.Common.{◌∙◌, subst, arith, inl, inr}
use Rattle.std.specs.List.{AllByRecursion}
use Rattle.std.proofs.lemmas.List.{append_assoc, append-nil, length-append, length_push, take_at, drop_at}
use Rattle.std.proofs.lemmas.List.Concat.{flat_map-append}
use Rattle.page_core.specs.declared.page.Page.{Page}
use Rattle.page_core.specs.Page.{IsPage, page_bytes, volume_bytes}
use Rattle.page_core.proofs.Public.{length-page_bytes, pages_apart}
use Rattle.copy_vault.specs.declared.archive_fault.ArchiveFault.{ArchiveFault}
use Rattle.copy_vault.specs.declared.archive_fault.ArchiveFault.TheVariants.{OutOfMemory, BadArchive}
use Rattle.copy_vault.specs.declared.archive_fault.ArchiveFault.TheVariants.{CountDiffers, ReadFault}
use Rattle.copy_vault.specs.declared.header.ArchiveHeader.{ArchiveHeader}
use Rattle.copy_vault.specs.Archive.{IsFront, RiseFrom, front_bytes, header_bytes}
use Rattle.copy_vault.specs.ArchiveFault.{Begins, EndsEarly, HasNext, HoldsFault}
use Rattle.copy_vault.specs.ArchiveRead.{next_from}
use Rattle.page_decisions.proofs.Public.{all_push}
use Rattle.copy_vault.proofs.Headers.{length-header_bytes, same_front}

-- ---- facts of each element

pub all_left : {X : Type 0} (P : X → Type 0) (xs ys : List X) → AllByRecursion P (xs ++ ys) → AllByRecursion P xs
all_left P [] ys all = tt
all_left P (x ∷ xs) ys all = (all.0, all_left P xs ys all.1)

pub all_last : {X : Type 0} (P : X → Type 0) (xs : List X) (x : X) → AllByRecursion P (xs ++ x ∷ []) → P x
all_last P [] x all = all.0
all_last P (y ∷ ys) x all = all_last P ys x all.1

-- ---- numbers that rise

rise_push : (n : ℕ) (pages : List Page) (page : Page) → RiseFrom n pages → next_from n pages ≤ page.number
    → RiseFrom n (pages ++ page ∷ [])
rise_push n [] page rise le = (le, tt)
rise_push n (first ∷ pages) page rise le = (rise.0, rise_push (first.number + 1) pages page rise.1 le)

rise_left : (n : ℕ) (xs ys : List Page) → RiseFrom n (xs ++ ys) → RiseFrom n xs
rise_left n [] ys rise = tt
rise_left n (x ∷ xs) ys rise = (rise.0, rise_left (x.number + 1) xs ys rise.1)

pub rise_last : (n : ℕ) (pages : List Page) (page : Page) → RiseFrom n (pages ++ page ∷ [])
    → next_from n pages ≤ page.number
rise_last n [] page rise = rise.0
rise_last n (first ∷ pages) page rise = rise_last (first.number + 1) pages page rise.1

pub next_push : (n : ℕ) (pages : List Page) (page : Page) → next_from n (pages ++ page ∷ []) ≡ page.number + 1
next_push n [] page = refl
next_push n (first ∷ pages) page = next_push (first.number + 1) pages page

-- ---- fronts

pub front_push : (h : ArchiveHeader) (pages : List Page) (page : Page) → IsFront h pages → length pages < h.taken
    → IsPage page → next_from 0 pages ≤ page.number → page.number < h.pages → IsFront h (pages ++ page ∷ [])
front_push h pages page front left valid next below = record {
  header = front.header;
  few = omega (arith, length_push pages page);
  valid = all_push IsPage pages page front.valid valid;
  rising = rise_push 0 pages page front.rising next;
  within = all_push (λ (p : Page). p.number < h.pages) pages page front.within below;
}

pub front_left : (h : ArchiveHeader) (xs ys : List Page) → IsFront h (xs ++ ys) → IsFront h xs
front_left h xs ys front = record {
  header = front.header;
  few = omega (arith, front.few, length-append xs ys);
  valid = all_left IsPage xs ys front.valid;
  rising = rise_left 0 xs ys front.rising;
  within = all_left (λ (p : Page). p.number < h.pages) xs ys front.within;
}

pub volume_length : (pages : List Page) → AllByRecursion IsPage pages
    → length (volume_bytes pages) ≡ 512 * length pages
volume_length [] all = omega arith
volume_length (page ∷ pages) all =
    length-append (page_bytes page) (volume_bytes pages)
    ∙ omega (arith, length-page_bytes page all.0.count, volume_length pages all.1)

pub volume_push : (pages : List Page) (page : Page)
    → volume_bytes (pages ++ page ∷ []) ≡ volume_bytes pages ++ page_bytes page
volume_push pages page =
    flat_map-append page_bytes pages (page ∷ [])
    ∙ ap (λ (bs : List ℕ). volume_bytes pages ++ bs) (append-nil (page_bytes page))

pub front_length : (h : ArchiveHeader) (pages : List Page) → AllByRecursion IsPage pages
    → length (front_bytes h pages) ≡ 64 + 512 * length pages
front_length h pages all =
    length-append (header_bytes h) (volume_bytes pages)
    ∙ omega (arith, length-header_bytes h, volume_length pages all)

-- of two lists of pages with the same bytes in front, the shorter one begins the longer
pub pages_before : (ps qs : List Page) (x y : List ℕ) → AllByRecursion IsPage ps → AllByRecursion IsPage qs
    → volume_bytes ps ++ x ≡ volume_bytes qs ++ y → length qs ≤ length ps
    → (more : List Page) × (ps ≡ qs ++ more) × (y ≡ volume_bytes more ++ x)
pages_before ps [] x y ps_valid qs_valid e le = (ps, refl, sym e)
pages_before [] (q ∷ qs) x y ps_valid qs_valid e le = absurd (omega arith)
pages_before (p ∷ ps) (q ∷ qs) x y ps_valid qs_valid e le =
    let apart : page_bytes p ++ (volume_bytes ps ++ x) ≡ page_bytes q ++ (volume_bytes qs ++ y) =
    sym (append_assoc (page_bytes p) (volume_bytes ps) x) ∙ e ∙ append_assoc (page_bytes q) (volume_bytes qs) y in
    let same : p ≡ q = pages_apart p q (volume_bytes ps ++ x) (volume_bytes qs ++ y) ps_valid.0 qs_valid.0 apart in
    let rest : volume_bytes ps ++ x ≡ volume_bytes qs ++ y =
    sym (drop_at (page_bytes p) (volume_bytes ps ++ x) 512 (length-page_bytes p ps_valid.0.count))
    ∙ ap (drop 512) apart
    ∙ drop_at (page_bytes q) (volume_bytes qs ++ y) 512 (length-page_bytes q qs_valid.0.count) in
    let others = pages_before ps qs x y ps_valid.1 qs_valid.1 rest (omega arith) in
    (others.0, ap (λ (rs : List Page). p ∷ rs) others.1 ∙ ap (λ (r : Page). r ∷ (qs ++ others.0)) same, others.2)

-- ---- what may be wrong behind a front

-- two fronts agree: they have one header, and the same bytes behind it
pub record Agree (h : ArchiveHeader) (pages : List Page) (pending : List ℕ) (k : ArchiveHeader) (others : List Page)
    (rest : List ℕ) : Type 0 where
  pub header : h ≡ k
  pub bytes : volume_bytes pages ++ pending ≡ volume_bytes others ++ rest
  pub count : 512 * length pages + length pending ≡ 512 * length others + length rest

pub agree : (h : ArchiveHeader) (pages : List Page) (pending : List ℕ) (k : ArchiveHeader) (others : List Page)
    (rest : List ℕ) → IsFront h pages → Begins (front_bytes h pages ++ pending) k others rest
    → Agree h pages pending k others rest
agree h pages pending k others rest front begins =
    let e : header_bytes h ++ (volume_bytes pages ++ pending) ≡ header_bytes k ++ (volume_bytes others ++ rest) =
    sym (append_assoc (header_bytes h) (volume_bytes pages) pending) ∙ begins.spelled
    ∙ append_assoc (header_bytes k) (volume_bytes others) rest in
    let both = same_front h k (volume_bytes pages ++ pending) (volume_bytes others ++ rest) front.header
    begins.front.header e in
    record {
      header = both.0;
      bytes = both.1;
      count = omega (
        arith,
        ap length both.1,
        length-append (volume_bytes pages) pending,
        length-append (volume_bytes others) rest,
        volume_length pages front.valid,
        volume_length others begins.front.valid,
      );
    }

pub header_there : (h : ArchiveHeader) (pages : List Page) (pending : List ℕ)
    → take 64 (front_bytes h pages ++ pending) ≡ header_bytes h
header_there h pages pending =
    ap (take 64) (append_assoc (header_bytes h) (volume_bytes pages) pending)
    ∙ take_at (header_bytes h) (volume_bytes pages ++ pending) 64 (length-header_bytes h)

-- the page at hand of the longer list may follow
pub next_of : (h k : ArchiveHeader) (pages others : List Page) (pending rest : List ℕ) → IsFront h pages → h ≡ k
    → (more : List Page) → pages ≡ others ++ more → rest ≡ volume_bytes more ++ pending → 0 < length more
    → HasNext k others rest
next_of h k pages others pending rest front same [] is e some = absurd (omega arith)
next_of h k pages others pending rest front same (q ∷ more) is e some = record {
  page = q;
  more = volume_bytes more ++ pending;
  front = front_left k (others ++ q ∷ []) more
      (subst (IsFront k) (is ∙ sym (append_assoc others (q ∷ []) more)) (subst (λ j. IsFront j pages) same front));
  spelled = e ∙ append_assoc (page_bytes q) (volume_bytes more) pending;
}

-- nothing is wrong within a front and less than a page
pub holds_none : (h : ArchiveHeader) (pages : List Page) (pending : List ℕ) → IsFront h pages
    → length pending < 512 → (length pages ≡ h.taken → pending ≡ []) → (fault : ArchiveFault)
    → ¬ HoldsFault (front_bytes h pages ++ pending) fault
holds_none h pages pending front short last (BadArchive at) (inl bad) =
    bad.2 (record { header = h; valid = front.header; spelled = header_there h pages pending })
holds_none h pages pending front short last (BadArchive at) (inr bad) =
    let a = agree h pages pending bad.header bad.pages bad.rest front bad.begins in
    let fewer : length bad.pages < length pages = omega (arith, a.count, bad.whole) in
    let split = pages_before pages bad.pages pending bad.rest front.valid bad.begins.front.valid
    a.bytes (omega arith) in
    bad.none (next_of h bad.header pages bad.pages pending bad.rest front a.header split.0 split.1 split.2
    (omega (arith, ap length split.1, length-append bad.pages split.0)))
holds_none h pages pending front short last CountDiffers bad =
    let a = agree h pages pending bad.header bad.pages bad.rest front bad.begins in
    let all : length bad.pages ≡ h.taken = bad.all ∙ ap (λ (k : ArchiveHeader). k.taken) (sym a.header) in
    let few = front.few in
    let equal : length pages ≡ h.taken = omega (arith, a.count, bad.some, all) in
    omega (arith, a.count, bad.some, all, ap length (last equal))
holds_none h pages pending front short last OutOfMemory bad = bad
holds_none h pages pending front short last ReadFault bad = bad

-- and an archive does not end early
pub ends_none : (h : ArchiveHeader) (pages : List Page) → IsFront h pages → length pages ≡ h.taken
    → (fault : ArchiveFault) → ¬ EndsEarly (front_bytes h pages) fault
ends_none h pages front all (BadArchive at) (inl bad) = omega (arith, bad.1, front_length h pages front.valid)
ends_none h pages front all (BadArchive at) (inr bad) =
    let begins = subst (λ (bs : List ℕ). Begins bs bad.header bad.pages bad.rest)
    (sym (append-nil (front_bytes h pages))) bad.begins in
    let a = agree h pages [] bad.header bad.pages bad.rest front begins in
    omega (arith, a.count, bad.some, bad.short)
ends_none h pages front all CountDiffers bad =
    let begins = subst (λ (bs : List ℕ). Begins bs bad.header bad.pages [])
    (sym (append-nil (front_bytes h pages))) bad.begins in
    let a = agree h pages [] bad.header bad.pages [] front begins in
    omega (arith, a.count, bad.left, all, ap (λ (k : ArchiveHeader). k.taken) a.header)
ends_none h pages front all OutOfMemory bad = bad
ends_none h pages front all ReadFault bad = bad
