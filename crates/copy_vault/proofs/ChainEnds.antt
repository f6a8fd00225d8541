-- A chain of archives that is read page by page: how it begins, how it goes on, and what it has given in the end.
use Rattle.std.proofs.Common.{◌≡◌, ℕ, ◌+◌, ◌-◌, ◌<◌, ◌≤◌, List, [], ◌∷◌, ◌++◌, length, get_or, map}
use Rattle.std.proofs.Common.{refl, sym, ap, ◌∙◌, subst, arith, suc, zero, inl, inr}
use Rattle.std.specs.Prelude.{Option, None, IfSome}
use Rattle.std.specs.List.{AllByRecursion, range_with_len}
use Rattle.std.proofs.lemmas.List.{get_or-map, length-map}
use Rattle.std.proofs.lemmas.List.FromFn.{length-map-range_with_len, map-range_with_len_more}
use Rattle.page_core.specs.declared.page.Page.{Page}
use Rattle.copy_vault.proofs.Counts.{count_below-not_more}
use Rattle.page_core.proofs.Public.{of_all}
use Rattle.page_core.specs.Input.{HasGivenAll}
use Rattle.page_core.specs.PageCounts.{PageCounts, count_below, last_count}
use Rattle.copy_vault.specs.declared.archive_cursor.ArchiveCursor.{ArchiveCursor}
use Rattle.copy_vault.specs.declared.chain_reader.ChainReader.{ChainReader}
use Rattle.copy_vault.specs.declared.copy_id.CopyKind.{CopyKind}
use Rattle.copy_vault.specs.declared.copy_id.CopyKind.TheVariants.{Full, Inc}
use Rattle.copy_vault.specs.declared.header.ArchiveHeader.{ArchiveHeader}
use Rattle.copy_vault.specs.Archive.{SpellsCopy, front_bytes, header_of}
use Rattle.copy_vault.specs.ArchiveRead.{IsPart, given_for}
use Rattle.copy_vault.specs.Chain.{FitFrom, content, contents, last_redo, row}
use Rattle.copy_vault.specs.ChainRead.{AreBelow, AreRead, HasRead, HeadsFit, IsGiven, copy_of, last_point, moment_of}
use Rattle.copy_vault.specs.ChainReading.{AreWithinLog, HaveGivenAll, IsChainRead, IsReading, SpellCopies, heads_of}
use Rattle.page_decisions.specs.Decisions.{decision_at, page_of, taken_count, taken_pages}
use Rattle.copy_vault.specs.Copy.{CopyView, IsComplete}
use Rattle.copy_vault.proofs.ArchiveReads.{spells_read}
use Rattle.copy_vault.proofs.ArchiveSteps.{kept_up_to, length_up_to, page_with_kept}
use Rattle.copy_vault.proofs.Chains.{fit_chain}
use Rattle.copy_vault.proofs.ChainSteps.{later_moment, no_copy, row_content}
use Rattle.copy_vault.proofs.Parts.{part_complete}
use Rattle.page_decisions.proofs.Public.{taken_kept}
use Rattle.copy_vault.proofs.Parts.{part_kept}

-- ---- the pages that were given

pub same_maps : {X : Type 0} (f g : ℕ → X) (n : ℕ) → ((p : ℕ) → p < n → f p ≡ g p)
    → map f (range_with_len 0 n) ≡ map g (range_with_len 0 n)
same_maps f g zero same = refl
same_maps {X = X} f g (suc n) same =
    let one : suc n ≡ n + 1 = omega arith in
    ap (λ m. map f (range_with_len 0 m)) one ∙ map-range_with_len_more f 0 n n (omega arith)
    ∙ ap (λ (ps : List X). ps ++ f n ∷ []) (same_maps f g n (λ p lt. same p (omega arith)))
    ∙ ap (λ (x : X). map g (range_with_len 0 n) ++ x ∷ []) (same n (omega arith))
    ∙ sym (map-range_with_len_more g 0 n n (omega arith)) ∙ ap (λ m. map g (range_with_len 0 m)) (sym one)

-- one page more is given
pub given_more : (end n : ℕ) (heads : List ArchiveHeader) (inputs lefts : List (Option (List ℕ)))
    (its : List ArchiveCursor) (old : List CopyView) (page : Page) (given : List Page)
    → (on : IsGiven end n heads inputs lefts its old page)
    → given ≡ map (content old) (range_with_len 0 n)
    → given ++ page ∷ [] ≡ map (content on.copies) (range_with_len 0 (n + 1))
given_more end n heads inputs lefts its old page given on made =
    ap (λ (ps : List Page). ps ++ page ∷ []) (made
    ∙ same_maps (content old) (content on.copies) n (λ p lt. row_content old on.copies p (sym (on.same p lt))))
    ∙ ap (λ (x : Page). map (content on.copies) (range_with_len 0 n) ++ x ∷ []) on.is
    ∙ sym (map-range_with_len_more (content on.copies) 0 n n (omega arith))

unfoldable pub reading_on : (counts : PageCounts) (inputs lefts more : List (Option (List ℕ))) (it new : ChainReader)
    (given : List Page) (page : Page) → (read : IsReading counts inputs lefts it given) → it.given < it.pages
    → IsGiven it.end it.given read.heads inputs more new.cursors.items read.copies page
    → new.pages ≡ it.pages → new.end ≡ it.end → new.redo ≡ it.redo → new.given ≡ it.given + 1 → new.failed ≡ None
    → IsReading counts inputs more new (given ++ page ∷ [])
reading_on counts inputs lefts more it new given page read left on pages end redo count failed =
    let moment : it.given + 2 ≡ moment_of new.given =
    omega (arith, later_moment new.given (omega (arith, count)), count) in
    record {
      heads = read.heads;
      copies = on.copies;
      some = read.some;
      fit = read.fit;
      points = λ k h lt. omega (arith, end, read.points k h lt);
      last = redo ∙ read.last;
      read = subst (λ e. AreRead e (moment_of new.given) 0 read.heads inputs more new.cursors.items on.copies) (sym end)
          (subst (λ n. AreRead it.end n 0 read.heads inputs more new.cursors.items on.copies) moment on.read);
      made = given_more it.end it.given read.heads inputs more new.cursors.items read.copies page given on read.made
          ∙ ap (λ n. map (content on.copies) (range_with_len 0 n)) (sym count);
      all = pages ∙ read.all;
      within = omega (arith, count, pages);
      open_still = failed;
    }

pub reading_more : (counts : PageCounts) (inputs lefts more : List (Option (List ℕ))) (it new : ChainReader)
    (given : List Page) (page : Page) → IsReading counts inputs lefts it given → it.given < it.pages
    → ((heads : List ArchiveHeader) (copies : List CopyView)
    → AreRead it.end (moment_of it.given) 0 heads inputs lefts it.cursors.items copies
    → IsGiven it.end it.given heads inputs more new.cursors.items copies page)
    → new.pages ≡ it.pages → new.end ≡ it.end → new.redo ≡ it.redo → new.given ≡ it.given + 1 → new.failed ≡ None
    → IsReading counts inputs more new (given ++ page ∷ [])
reading_more counts inputs lefts more it new given page read left step pages end redo count failed =
    reading_on counts inputs lefts more it new given page read left (step read.heads read.copies read.read) pages end
    redo count failed

-- ---- the copies in the end

-- as many pages as the volume had when the copy began
unfoldable pub completed : PageCounts → CopyView → CopyView
completed counts copy = record copy { pages = kept_up_to copy.pages (count_below counts copy.begin) }

-- a copy of which all pages were read
record IsWhole (counts : PageCounts) (h : ArchiveHeader) (input : Option (List ℕ)) (copy : CopyView) : Type 0 where
  pub spelled : IfSome input (SpellsCopy copy)
  pub kind : copy.kind ≡ h.kind
  pub id : copy.id ≡ h.id
  pub redo : copy.redo ≡ h.redo
  pub count : length copy.pages ≡ count_below counts copy.begin
  pub complete : IsComplete copy.kind copy.pages

-- a moment past all pages of an archive
record IsPast (counts : PageCounts) (next : ℕ) (h : ArchiveHeader) : Type 0 where
  pub whole : h.pages ≡ count_below counts h.begin
  pub past : h.pages < next

-- all of them were read then
all_taken : (counts : PageCounts) (end next : ℕ) (h : ArchiveHeader) (input left : Option (List ℕ))
    (it : ArchiveCursor) (copy : CopyView) → HasRead end next h input left it copy → IsPast counts next h
    → taken_count copy.pages ≡ h.taken
all_taken counts end next h input left it copy read over = elim read.far [
  | inl le ↦ absurd (omega (arith, le, read.read.part.within, over.past))
  | inr all ↦ all
]

whole_one : (counts : PageCounts) (end next : ℕ) (h : ArchiveHeader) (input left : Option (List ℕ))
    (it : ArchiveCursor) (copy : CopyView) → HasRead end next h input left it copy → IsPast counts next h
    → IsWhole counts h input (completed counts copy)
unfolding completed
whole_one counts end next h input left it copy read over =
    let old = copy.pages in
    let n = count_below counts copy.begin in
    let new = kept_up_to old n in
    let wide : h.pages ≡ n = over.whole ∙ ap (λ (c : CopyView). count_below counts c.begin) (sym read.is) in
    let within : length old ≤ n = omega (arith, read.read.part.within, wide) in
    let all = all_taken counts end next h input left it copy read over in
    let part : IsPart h new = part_kept h (n - length old) old read.read.part (omega (arith, wide, within)) in
    let same = taken_kept (n - length old) old in
    let long : length new ≡ h.pages = length_up_to old n within ∙ sym wide in
    let counted : taken_count new ≡ h.taken = ap length same ∙ all in
    let is : record copy { pages = new } ≡ copy_of h new = ap (λ (c : CopyView). record c { pages = new }) read.is in
    record {
      spelled = of_all input left (given_for h old) (SpellsCopy (record copy { pages = new })) read.given
          (read.ended (omega (arith, over.past)) all)
          (subst (λ (c : CopyView). SpellsCopy c (given_for h old)) (sym is)
          (subst (SpellsCopy (copy_of h new)) (ap (front_bytes h) same) (spells_read h new part long counted)));
      kind = ap (λ (c : CopyView). c.kind) read.is;
      id = ap (λ (c : CopyView). c.id) read.is;
      redo = ap (λ (c : CopyView). c.redo) read.is;
      count = long ∙ wide;
      complete = subst (λ (k : CopyKind). IsComplete k new) (sym (ap (λ (c : CopyView). c.kind) read.is))
          (part_complete h new part long counted);
    }

low_one : (counts : PageCounts) (end next : ℕ) (h : ArchiveHeader) (input left : Option (List ℕ))
    (it : ArchiveCursor) (copy : CopyView) → HasRead end next h input left it copy → h.redo < end
    → (completed counts copy).redo < end
unfolding completed
low_one counts end next h input left it copy read low =
    omega (arith, low, ap (λ (c : CopyView). c.redo) read.is)

below_one : (counts : PageCounts) (end next : ℕ) (h : ArchiveHeader) (input left : Option (List ℕ))
    (it : ArchiveCursor) (copy : CopyView) → HasRead end next h input left it copy
    → AreBelow end (taken_pages (completed counts copy).pages)
unfolding completed
below_one counts end next h input left it copy read =
    subst (AreBelow end) (sym (taken_kept (count_below counts copy.begin - length copy.pages) copy.pages)) read.below

pub row_completed : (counts : PageCounts) (p : ℕ) (copies : List CopyView)
    → row (map (completed counts) copies) p ≡ row copies p
unfolding completed
row_completed counts p [] = refl
row_completed counts p (copy ∷ copies) =
    ap (λ (ps : List Page). ps ∷ row (map (completed counts) copies) p)
    (page_with_kept copy.pages (count_below counts copy.begin - length copy.pages) p)
    ∙ ap (λ (ps : List (List Page)). page_of (decision_at copy.pages p) ∷ ps) (row_completed counts p copies)

-- no archive has pages past the last count
past_at : (counts : PageCounts) (next k : ℕ) (kind : CopyKind) (heads : List ArchiveHeader) (h : ArchiveHeader)
    → HeadsFit counts kind heads → last_count counts < next → k < length heads
    → IsPast counts next (get_or heads k h)
past_at counts next k kind [] h fit far lt = absurd (omega arith)
past_at counts next zero kind (x ∷ heads) h fit far lt = record {
  whole = fit.0.whole;
  past = omega (arith, fit.0.whole, count_below-not_more counts x.begin, far);
}
past_at counts next (suc k) kind (x ∷ heads) h fit far lt =
    past_at counts next k (Inc x.id) heads h fit.1 far (omega arith)

-- all of them are
AreWhole : PageCounts → List ArchiveHeader → List (Option (List ℕ)) → List CopyView → Type 0
AreWhole counts [] [] [] = Unit {0}
AreWhole counts [] [] (c ∷ copies) = ⊥
AreWhole counts [] (i ∷ inputs) copies = ⊥
AreWhole counts (h ∷ heads) [] copies = ⊥
AreWhole counts (h ∷ heads) (i ∷ inputs) [] = ⊥
AreWhole counts (h ∷ heads) (i ∷ inputs) (c ∷ copies) = IsWhole counts h i c × AreWhole counts heads inputs copies

all_whole : (counts : PageCounts) (heads : List ArchiveHeader) (inputs : List (Option (List ℕ))) (copies : List CopyView)
    → length inputs ≡ length heads → length copies ≡ length heads
    → ((k : ℕ) (h : ArchiveHeader) (i : Option (List ℕ)) (c : CopyView) → k < length heads
    → IsWhole counts (get_or heads k h) (get_or inputs k i) (get_or copies k c)) → AreWhole counts heads inputs copies
unfolding AreWhole
all_whole counts [] [] [] is cs each = tt
all_whole counts [] [] (c ∷ copies) is cs each = absurd (omega arith)
all_whole counts [] (i ∷ inputs) copies is cs each = absurd (omega arith)
all_whole counts (h ∷ heads) [] copies is cs each = absurd (omega arith)
all_whole counts (h ∷ heads) (i ∷ inputs) [] is cs each = absurd (omega arith)
all_whole counts (h ∷ heads) (i ∷ inputs) (c ∷ copies) is cs each = (
  each 0 h i c (omega arith),
  all_whole counts heads inputs copies (omega arith) (omega arith) (λ k x y z lt. each (suc k) x y z (omega arith)),
)

spell_whole : (counts : PageCounts) (heads : List ArchiveHeader) (inputs : List (Option (List ℕ))) (copies : List CopyView)
    → AreWhole counts heads inputs copies → SpellCopies inputs copies
unfolding AreWhole
spell_whole counts [] [] [] all = tt
spell_whole counts [] [] (c ∷ copies) all = absurd all
spell_whole counts [] (i ∷ inputs) copies all = absurd all
spell_whole counts (h ∷ heads) [] copies all = absurd all
spell_whole counts (h ∷ heads) (i ∷ inputs) [] all = absurd all
spell_whole counts (h ∷ heads) (i ∷ inputs) (c ∷ copies) all = (all.0.spelled, spell_whole counts heads inputs copies all.1)

complete_whole : (counts : PageCounts) (heads : List ArchiveHeader) (inputs : List (Option (List ℕ))) (copies : List CopyView)
    → AreWhole counts heads inputs copies → AllByRecursion (λ copy. IsComplete copy.kind copy.pages) copies
unfolding AreWhole
complete_whole counts [] [] [] all = tt
complete_whole counts [] [] (c ∷ copies) all = absurd all
complete_whole counts [] (i ∷ inputs) copies all = absurd all
complete_whole counts (h ∷ heads) [] copies all = absurd all
complete_whole counts (h ∷ heads) (i ∷ inputs) [] all = absurd all
complete_whole counts (h ∷ heads) (i ∷ inputs) (c ∷ copies) all =
    (all.0.complete, complete_whole counts heads inputs copies all.1)

fit_whole : (counts : PageCounts) (kind : CopyKind) (heads : List ArchiveHeader) (inputs : List (Option (List ℕ)))
    (copies : List CopyView) → AreWhole counts heads inputs copies → HeadsFit counts kind heads → FitFrom counts kind copies
unfolding AreWhole
fit_whole counts kind [] [] [] all fit = tt
fit_whole counts kind [] [] (c ∷ copies) all fit = absurd all
fit_whole counts kind [] (i ∷ inputs) copies all fit = absurd all
fit_whole counts kind (h ∷ heads) [] copies all fit = absurd all
fit_whole counts kind (h ∷ heads) (i ∷ inputs) [] all fit = absurd all
fit_whole counts kind (h ∷ heads) (i ∷ inputs) (c ∷ copies) all fit = (
  record { same_kind = all.0.kind ∙ fit.0.same_kind; whole = all.0.count },
  subst (λ id. FitFrom counts (Inc id) copies) (sym all.0.id) (fit_whole counts (Inc h.id) heads inputs copies all.1 fit.1),
)

last_whole : (counts : PageCounts) (heads : List ArchiveHeader) (inputs : List (Option (List ℕ))) (copies : List CopyView)
    → AreWhole counts heads inputs copies → last_point heads ≡ last_redo copies
unfolding AreWhole
last_whole counts [] [] [] all = refl
last_whole counts [] [] (c ∷ copies) all = absurd all
last_whole counts [] (i ∷ inputs) copies all = absurd all
last_whole counts (h ∷ heads) [] copies all = absurd all
last_whole counts (h ∷ heads) (i ∷ inputs) [] all = absurd all
last_whole counts (h ∷ []) (i ∷ []) (c ∷ []) all = sym all.0.redo
last_whole counts (h ∷ []) (i ∷ []) (c ∷ d ∷ copies) all = absurd all.1
last_whole counts (h ∷ []) (i ∷ j ∷ inputs) (c ∷ copies) all = absurd all.1
last_whole counts (h ∷ k ∷ heads) (i ∷ []) (c ∷ copies) all = absurd all.1
last_whole counts (h ∷ k ∷ heads) (i ∷ j ∷ inputs) (c ∷ []) all = absurd all.1
last_whole counts (h ∷ k ∷ heads) (i ∷ j ∷ inputs) (c ∷ d ∷ copies) all =
    last_whole counts (k ∷ heads) (j ∷ inputs) (d ∷ copies) all.1

-- in the place of an archive that is not there
pub blank : ArchiveHeader → ArchiveCursor
blank h = record { header = h; read = 0; from = 0; page = None; turns = 0 }

-- a volume has a page at least
some_pages : (counts : PageCounts) (end next : ℕ) (heads : List ArchiveHeader) (inputs lefts : List (Option (List ℕ)))
    (its : List ArchiveCursor) (copies : List CopyView) → AreRead end next 0 heads inputs lefts its copies
    → HeadsFit counts Full heads → 0 < length heads → 0 < last_count counts
some_pages counts end next [] inputs lefts its copies read fit some = absurd (omega arith)
some_pages counts end next (h ∷ heads) inputs lefts its copies read fit some =
    let first = read.due 0 h None None (blank h) no_copy (omega (arith, read.heads_count)) (omega arith) in
    omega (
      arith,
      first.read.part.front.header.some_pages,
      fit.0.whole,
      count_below-not_more counts h.begin,
    )

all_of : {X : Type 0} (P : X → Type 0) (xs : List X) → ((k : ℕ) (d : X) → k < length xs → P (get_or xs k d))
    → AllByRecursion P xs
all_of P [] each = tt
all_of P (x ∷ xs) each = (each 0 x (omega arith), all_of P xs (λ k d lt. each (suc k) d (omega arith)))

-- no copy reaches past the log's end
within_whole : (counts : PageCounts) (end next : ℕ) (heads : List ArchiveHeader)
    (inputs lefts : List (Option (List ℕ))) (its : List ArchiveCursor) (copies : List CopyView)
    → AreRead end next 0 heads inputs lefts its copies
    → ((k : ℕ) (h : ArchiveHeader) → k < length heads → (get_or heads k h).redo < end)
    → AreWithinLog end (map (completed counts) copies)
within_whole counts end next heads inputs lefts its copies read points =
    let none = header_of no_copy in
    let long : length (map (completed counts) copies) ≡ length copies = length-map copies (completed counts) in
    let each : (k : ℕ) → k < length copies
    → HasRead end next (get_or heads k none) (get_or inputs k None) (get_or lefts k None)
    (get_or its k (blank none)) (get_or copies k no_copy) =
    λ k lt. read.due k none None None (blank none) no_copy (omega (arith, lt, read.copies_count)) (omega arith) in
    record {
      points = all_of (λ (c : CopyView). c.redo < end) (map (completed counts) copies) (λ k c lt.
          let below : k < length copies = omega (arith, long, lt) in
          subst (λ (x : CopyView). x.redo < end) (sym (get_or-map (completed counts) copies k no_copy c below))
          (low_one counts end next (get_or heads k none) (get_or inputs k None) (get_or lefts k None)
          (get_or its k (blank none)) (get_or copies k no_copy) (each k below)
          (points k none (omega (arith, below, read.copies_count, read.heads_count)))));
      below = all_of (λ (c : CopyView). AreBelow end (taken_pages c.pages)) (map (completed counts) copies) (λ k c lt.
          let below : k < length copies = omega (arith, long, lt) in
          subst (λ (x : CopyView). AreBelow end (taken_pages x.pages))
          (sym (get_or-map (completed counts) copies k no_copy c below))
          (below_one counts end next (get_or heads k none) (get_or inputs k None) (get_or lefts k None)
          (get_or its k (blank none)) (get_or copies k no_copy) (each k below)));
    }

-- the archives are read past their pages then
read_past : (counts : PageCounts) (inputs lefts : List (Option (List ℕ))) (it : ChainReader) (given : List Page)
    → IsReading counts inputs lefts it given → it.pages ≤ it.given → last_count counts < moment_of it.given
read_past counts inputs lefts it given read past =
    let some = some_pages counts it.end (moment_of it.given) read.heads inputs lefts it.cursors.items read.copies
    read.read read.fit read.some in
    omega (arith, later_moment it.given (omega (arith, some, read.all)), read.all)

-- once all pages were given the archives spell a chain
pub read_whole : (counts : PageCounts) (inputs lefts : List (Option (List ℕ))) (it : ChainReader) (given : List Page)
    → IsReading counts inputs lefts it given → it.pages ≤ it.given
    → IsChainRead counts it.end inputs given it.redo
read_whole counts inputs lefts it given read past =
    let next = moment_of it.given in
    let far = read_past counts inputs lefts it given read past in
    let all : it.given ≡ last_count counts = omega (arith, read.within, read.all) in
    let ready = read.read in
    let copies = map (completed counts) read.copies in
    let whole : AreWhole counts read.heads inputs copies =
    all_whole counts read.heads inputs copies (omega (arith, ready.heads_count, ready.inputs_count))
    (omega (arith, length-map read.copies (completed counts), ready.heads_count, ready.copies_count))
    (λ k h i c lt.
    let below : k < length read.copies = omega (arith, ready.heads_count, ready.copies_count) in
    subst (IsWhole counts (get_or read.heads k h) (get_or inputs k i))
    (sym (get_or-map (completed counts) read.copies k no_copy c below))
    (whole_one counts it.end next (get_or read.heads k h) (get_or inputs k i) (get_or lefts k i)
    (get_or it.cursors.items k (blank h)) (get_or read.copies k no_copy)
    (ready.due k h i i (blank h) no_copy (omega (arith, ready.heads_count)) (omega arith))
    (past_at counts next k Full read.heads h read.fit far lt))) in
    let fit = fit_whole counts Full read.heads inputs copies whole read.fit in
    let there : 0 < length copies = omega
    (arith, read.some, length-map read.copies (completed counts), ready.heads_count, ready.copies_count) in
    record {
      copies = copies;
      spelled = spell_whole counts read.heads inputs copies whole;
      fit = fit;
      chain = fit_chain counts copies fit there (complete_whole counts read.heads inputs copies whole);
      within = within_whole counts it.end next read.heads inputs lefts it.cursors.items read.copies ready read.points;
      made = read.made
          ∙ same_maps (content read.copies) (content copies) it.given
          (λ p lt. row_content read.copies copies p (sym (row_completed counts p read.copies)))
          ∙ ap (contents copies) all;
      last = read.last ∙ last_whole counts read.heads inputs copies whole;
    }

-- and were read to their ends
given_one : (counts : PageCounts) (end next : ℕ) (h : ArchiveHeader) (input left : Option (List ℕ))
    (it : ArchiveCursor) (copy : CopyView) → HasRead end next h input left it copy → IsPast counts next h
    → HasGivenAll input left
given_one counts end next h input left it copy read over = (
  (given_for h copy.pages, read.given),
  read.ended (omega (arith, over.past)) (all_taken counts end next h input left it copy read over),
)

pub given_whole : (counts : PageCounts) (inputs lefts : List (Option (List ℕ))) (it : ChainReader) (given : List Page)
    → IsReading counts inputs lefts it given → it.pages ≤ it.given → HaveGivenAll inputs lefts
given_whole counts inputs lefts it given read past = λ k i l lt.
    let next = moment_of it.given in
    let h = header_of no_copy in
    let far = read_past counts inputs lefts it given read past in
    let ready = read.read in
    let there : k < length it.cursors.items = omega (arith, ready.inputs_count) in
    given_one counts it.end next (get_or read.heads k h) (get_or inputs k i) (get_or lefts k l)
    (get_or it.cursors.items k (blank h)) (get_or read.copies k no_copy)
    (ready.due k h i l (blank h) no_copy there (omega arith))
    (past_at counts next k Full read.heads h read.fit far (omega (arith, ready.heads_count)))

pub whole_copies : (counts : PageCounts) (inputs lefts : List (Option (List ℕ))) (it : ChainReader)
    (given : List Page) (read : IsReading counts inputs lefts it given) (past : it.pages ≤ it.given)
    → (read_whole counts inputs lefts it given read past).copies ≡ map (completed counts) read.copies
unfolding read_whole
whole_copies counts inputs lefts it given read past = refl

-- ---- the headers

pub redo_at_last : (its : List ArchiveCursor) (d : ArchiveCursor) → 0 < length its
    → (get_or its (length its - 1) d).header.redo ≡ last_point (heads_of its)
redo_at_last [] d some = absurd (omega arith)
redo_at_last (it ∷ []) d some = refl
redo_at_last (it ∷ next ∷ more) d some =
    let back : length (it ∷ next ∷ more) - 1 ≡ suc (length (next ∷ more) - 1) = omega arith in
    ap (λ n. (get_or (it ∷ next ∷ more) n d).header.redo) back ∙ redo_at_last (next ∷ more) d (omega arith)

-- no more pages are given than there are
pub count_given : (counts : PageCounts) (inputs lefts : List (Option (List ℕ))) (it : ChainReader) (given : List Page)
    → IsReading counts inputs lefts it given → length given ≤ it.pages
count_given counts inputs lefts it given read =
    omega (arith, read.within, ap length read.made, length-map-range_with_len (content read.copies) 0 it.given)
