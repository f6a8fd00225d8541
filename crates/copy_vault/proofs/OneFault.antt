-- An input has one fault at most.
use Rattle.std.proofs.Common.{◌≡◌, ℕ, ◌<◌, ◌≤◌, ◌⊎◌, List, [], ◌∷◌, ◌++◌, length, take, refl, sym, ap}
use Rattle.std.proofs.Common.{◌∙◌, subst, arith, inl, inr}
use Rattle.std.proofs.lemmas.Bool.{cases_lt}
use Rattle.std.proofs.lemmas.List.{append-nil, length-append}
use Rattle.page_core.specs.declared.page.Page.{Page}
use Rattle.page_core.specs.Page.{IsPage, page_bytes, volume_bytes}
use Rattle.page_core.proofs.Public.{length-page_bytes}
use Rattle.copy_vault.specs.declared.archive_fault.ArchiveFault.{ArchiveFault}
use Rattle.copy_vault.specs.declared.archive_fault.ArchiveFault.TheVariants.{OutOfMemory, BadArchive}
use Rattle.copy_vault.specs.declared.archive_fault.ArchiveFault.TheVariants.{CountDiffers, ReadFault}
use Rattle.copy_vault.specs.declared.header.ArchiveHeader.{ArchiveHeader}
use Rattle.copy_vault.specs.Archive.{front_bytes}
use Rattle.copy_vault.specs.ArchiveFault.{Begins, HasFault, HasNext, SpellsHeader}
use Rattle.copy_vault.proofs.ArchiveReads.{begins_long}
use Rattle.copy_vault.proofs.Fronts.{agree, all_last, header_there, next_of, pages_before}

-- the bytes are right up to here, and no page may follow
record Stops (bytes : List ℕ) (h : ArchiveHeader) (pages : List Page) (rest : List ℕ) : Type 0 where
  pub begins : Begins bytes h pages rest
  pub last : (length pages ≡ h.taken) ⊎ (¬ HasNext h pages rest)

-- it is the same place
record Same (h k : ArchiveHeader) (ps qs : List Page) (x y : List ℕ) : Type 0 where
  pub header : h ≡ k
  pub pages : ps ≡ qs
  pub rest : x ≡ y

same_back : (h k : ArchiveHeader) (ps qs : List Page) (x y : List ℕ) → Same h k ps qs x y → Same k h qs ps y x
same_back h k ps qs x y same = record { header = sym same.header; pages = sym same.pages; rest = sym same.rest }

no_more : (h k : ArchiveHeader) (ps qs : List Page) (x y : List ℕ) (bytes : List ℕ) → Stops bytes h ps x
    → Stops bytes k qs y → h ≡ k → (more : List Page) → ps ≡ qs ++ more → 0 < length more
    → (HasNext k qs y) → ⊥
no_more h k ps qs x y bytes one two same more is some next = elim two.last [
  | inl all ↦ let few = one.begins.front.few in
      omega (arith, ap length is, length-append qs more, all, ap (λ (j : ArchiveHeader). j.taken) same)
  | inr none ↦ none next
]

in_order : (bytes : List ℕ) (h k : ArchiveHeader) (ps qs : List Page) (x y : List ℕ) → Stops bytes h ps x
    → Stops bytes k qs y → length qs ≤ length ps → Same h k ps qs x y
in_order bytes h k ps qs x y one two le =
    let front = one.begins.front in
    let begins = subst (λ (bs : List ℕ). Begins bs k qs y) one.begins.spelled two.begins in
    let a = agree h ps x k qs y front begins in
    let split = pages_before ps qs x y front.valid two.begins.front.valid a.bytes le in
    rest_of split.0 a.header split.1 split.2
  where
    rest_of : (more : List Page) → h ≡ k → ps ≡ qs ++ more → y ≡ volume_bytes more ++ x → Same h k ps qs x y
    rest_of [] same is e = record { header = same; pages = is ∙ append-nil qs; rest = sym e }
    rest_of (page ∷ more) same is e =
        absurd (no_more h k ps qs x y bytes one two same (page ∷ more) is (omega arith)
        (next_of h k ps qs x y one.begins.front same (page ∷ more) is e (omega arith)))

stops_once : (bytes : List ℕ) (h k : ArchiveHeader) (ps qs : List Page) (x y : List ℕ) → Stops bytes h ps x
    → Stops bytes k qs y → Same h k ps qs x y
stops_once bytes h k ps qs x y one two = elim (cases_lt (length ps) (length qs)) [
  | inl lt ↦ same_back k h qs ps y x (in_order bytes k h qs ps y x two one (omega arith))
  | inr le ↦ in_order bytes h k ps qs x y one two le
]

-- ---- the kinds of faults

-- the header is misspelt or cut short
record IsBadHeader (bytes : List ℕ) (at : ℕ) : Type 0 where
  pub place : at ≡ 0
  pub none : (h : ArchiveHeader) (pages : List Page) (rest : List ℕ) → ¬ Begins bytes h pages rest

-- a page is
record IsBadPage (bytes : List ℕ) (at : ℕ) : Type 0 where
  pub header : ArchiveHeader
  pub pages : List Page
  pub rest : List ℕ
  pub stops : Stops bytes header pages rest
  pub place : at ≡ length (front_bytes header pages)
  pub left : length pages < header.taken
  pub some : 0 < length rest

-- the count is wrong
record IsBadCount (bytes : List ℕ) : Type 0 where
  pub header : ArchiveHeader
  pub pages : List Page
  pub rest : List ℕ
  pub stops : Stops bytes header pages rest
  pub count : (length pages ≡ header.taken) ⊎ (length rest ≡ 0)

no_header : (bytes : List ℕ) → (¬ SpellsHeader (take 64 bytes)) → (h : ArchiveHeader) (pages : List Page)
    (rest : List ℕ) → ¬ Begins bytes h pages rest
no_header bytes none h pages rest begins = none (record {
  header = h;
  valid = begins.front.header;
  spelled = ap (take 64) begins.spelled ∙ header_there h pages rest;
})

short_rest : (h : ArchiveHeader) (pages : List Page) (rest : List ℕ) → length rest < 512 → ¬ HasNext h pages rest
short_rest h pages rest short next =
    let valid = all_last IsPage pages next.page next.front.valid in
    omega (
      arith,
      ap length next.spelled,
      length-append (page_bytes next.page) next.more,
      length-page_bytes next.page valid.count,
    )

bad_archive : (bytes : List ℕ) (at : ℕ) → HasFault bytes (BadArchive at) → IsBadHeader bytes at ⊎ IsBadPage bytes at
bad_archive bytes at (inl (inl bad)) = inl (record { place = bad.0; none = no_header bytes bad.2 })
bad_archive bytes at (inl (inr bad)) = inr (record {
  header = bad.header;
  pages = bad.pages;
  rest = bad.rest;
  stops = record { begins = bad.begins; last = inr bad.none };
  place = bad.place;
  left = bad.left;
  some = omega (arith, bad.whole);
})
bad_archive bytes at (inr (inl bad)) = inl (record {
  place = bad.0;
  none = λ h pages rest begins. omega (arith, bad.1, begins_long bytes h pages rest begins);
})
bad_archive bytes at (inr (inr bad)) = inr (record {
  header = bad.header;
  pages = bad.pages;
  rest = bad.rest;
  stops = record { begins = bad.begins; last = inr (short_rest bad.header bad.pages bad.rest bad.short) };
  place = bad.place;
  left = bad.left;
  some = bad.some;
})

bad_count : (bytes : List ℕ) → HasFault bytes CountDiffers → IsBadCount bytes
bad_count bytes (inl bad) = record {
  header = bad.header;
  pages = bad.pages;
  rest = bad.rest;
  stops = record { begins = bad.begins; last = inl bad.all };
  count = inl bad.all;
}
bad_count bytes (inr bad) = record {
  header = bad.header;
  pages = bad.pages;
  rest = [];
  stops = record { begins = bad.begins; last = inr (short_rest bad.header bad.pages [] (omega arith)) };
  count = inr refl;
}

-- ---- no two of them

same_bad : (bytes : List ℕ) (m n : ℕ) → IsBadHeader bytes m ⊎ IsBadPage bytes m
    → IsBadHeader bytes n ⊎ IsBadPage bytes n
    → m ≡ n
same_bad bytes m n (inl one) (inl two) = one.place ∙ sym two.place
same_bad bytes m n (inl one) (inr two) = absurd (one.none two.header two.pages two.rest two.stops.begins)
same_bad bytes m n (inr one) (inl two) = absurd (two.none one.header one.pages one.rest one.stops.begins)
same_bad bytes m n (inr one) (inr two) =
    let same = stops_once bytes one.header two.header one.pages two.pages one.rest two.rest one.stops two.stops in
    one.place ∙ ap (λ (h : ArchiveHeader). length (front_bytes h one.pages)) same.header
    ∙ ap (λ (ps : List Page). length (front_bytes two.header ps)) same.pages ∙ sym two.place

not_both : (bytes : List ℕ) (at : ℕ) → IsBadHeader bytes at ⊎ IsBadPage bytes at → ¬ IsBadCount bytes
not_both bytes at (inl one) two = one.none two.header two.pages two.rest two.stops.begins
not_both bytes at (inr one) two =
    let same = stops_once bytes one.header two.header one.pages two.pages one.rest two.rest one.stops two.stops in
    elim two.count [
      | inl all ↦ let left = one.left in
          omega (arith, all, ap length same.pages, ap (λ (h : ArchiveHeader). h.taken) same.header)
      | inr none ↦ let some = one.some in omega (arith, none, ap length same.rest)
    ]

outside_none : (bytes : List ℕ) → ¬ HasFault bytes OutOfMemory
outside_none bytes (inl bad) = bad
outside_none bytes (inr bad) = bad

unread_none : (bytes : List ℕ) → ¬ HasFault bytes ReadFault
unread_none bytes (inl bad) = bad
unread_none bytes (inr bad) = bad

pub one_fault : (bytes : List ℕ) (a b : ArchiveFault) → HasFault bytes a → HasFault bytes b → a ≡ b
one_fault bytes (BadArchive m) (BadArchive n) one two =
    ap BadArchive (same_bad bytes m n (bad_archive bytes m one) (bad_archive bytes n two))
one_fault bytes (BadArchive m) CountDiffers one two =
    absurd (not_both bytes m (bad_archive bytes m one) (bad_count bytes two))
one_fault bytes CountDiffers (BadArchive n) one two =
    absurd (not_both bytes n (bad_archive bytes n two) (bad_count bytes one))
one_fault bytes CountDiffers CountDiffers one two = refl
one_fault bytes OutOfMemory b one two = absurd (outside_none bytes one)
one_fault bytes ReadFault b one two = absurd (unread_none bytes one)
one_fault bytes (BadArchive m) OutOfMemory one two = absurd (outside_none bytes two)
one_fault bytes (BadArchive m) ReadFault one two = absurd (unread_none bytes two)
one_fault bytes CountDiffers OutOfMemory one two = absurd (outside_none bytes two)
one_fault bytes CountDiffers ReadFault one two = absurd (unread_none bytes two)
