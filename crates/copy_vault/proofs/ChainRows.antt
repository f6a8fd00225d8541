-- A chain of archives of which each one's page is given: how it goes on, and what it has given in the end.
use Rattle.std.proofs.Common.{◌≡◌, ℕ, ◌+◌, ◌<◌, ◌≤◌, List, [], ◌∷◌, ◌++◌, length, get_or, map}
use Rattle.std.proofs.Common.{refl, sym, ap, ◌∙◌, arith}
use Rattle.std.specs.Prelude.{Option, None, Result, Ok, Err, OnOk}
use Rattle.std.proofs.lemmas.List.{get_or-map, length-map, length_push}
use Rattle.std.proofs.lemmas.List.FromFn.{length-map-range_with_len, map-range_with_len_more}
use Rattle.page_core.specs.PageCounts.{PageCounts, last_count}
use Rattle.page_core.specs.declared.page.Page.{Page}
use Rattle.copy_vault.specs.declared.archive_cursor.ArchiveCursor.{ArchiveCursor}
use Rattle.copy_vault.specs.declared.chain_reader.ChainReader.{ChainReader}
use Rattle.copy_vault.specs.declared.header.ArchiveHeader.{ArchiveHeader}
use Rattle.copy_vault.specs.Chain.{content, row, rows}
use Rattle.copy_vault.specs.ChainEach.{IsEachRead, IsReadingEach, ids_of, points_of}
use Rattle.copy_vault.specs.ChainRead.{AreRead, IsRowGiven, copy_of, moment_of}
use Rattle.copy_vault.specs.ChainReading.{IsReading, heads_of}
use Rattle.copy_vault.specs.Copy.{CopyView}
use Rattle.copy_vault.proofs.ChainEnds.{blank, completed, read_whole, reading_on, row_completed, same_maps}
use Rattle.copy_vault.proofs.ChainEnds.{whole_copies}
use Rattle.copy_vault.proofs.ChainSteps.{no_copy, same_each}

-- what holds of a result that is right, where it is no fault
pub found_ok : {T E : Type 0} (r : Result T E) (P : Type 0) → ((e : E) → ¬ (r ≡ Err e)) → OnOk r P → P
found_ok (Ok x) P right h = h
found_ok (Err e) P right h = absurd (right e refl)

-- a reader that begins has given no rows
pub each_none : (counts : PageCounts) (inputs lefts : List (Option (List ℕ))) (it : ChainReader)
    → IsReading counts inputs lefts it [] → it.given ≡ 0 → IsReadingEach counts inputs lefts it []
each_none counts inputs lefts it read none = record {
  pages = [];
  reading = read;
  rows_made = sym (ap (λ n. rows read.copies n) none);
  within = omega arith;
}

-- one row more is given
rows_more : (end n : ℕ) (heads : List ArchiveHeader) (inputs lefts : List (Option (List ℕ)))
    (its : List ArchiveCursor) (old : List CopyView) (pages : List (List Page)) (given : List (List (List Page)))
    → (on : IsRowGiven end n heads inputs lefts its old pages) → given ≡ rows old n
    → given ++ pages ∷ [] ≡ rows on.copies (n + 1)
rows_more end n heads inputs lefts its old pages given on made =
    ap (λ (rs : List (List (List Page))). rs ++ pages ∷ []) (made
    ∙ same_maps (row old) (row on.copies) n (λ p lt. sym (on.same p lt)))
    ∙ ap (λ (r : List (List Page)). rows on.copies n ++ r ∷ []) on.is
    ∙ sym (map-range_with_len_more (row on.copies) 0 n n (omega arith))

pub each_more : (counts : PageCounts) (inputs lefts more : List (Option (List ℕ))) (it new : ChainReader)
    (given : List (List (List Page))) (pages : List (List Page))
    → IsReadingEach counts inputs lefts it given → it.given < it.pages
    → ((heads : List ArchiveHeader) (copies : List CopyView)
    → AreRead it.end (moment_of it.given) 0 heads inputs lefts it.cursors.items copies
    → IsRowGiven it.end it.given heads inputs more new.cursors.items copies pages)
    → new.pages ≡ it.pages → new.end ≡ it.end → new.redo ≡ it.redo → new.given ≡ it.given + 1 → new.failed ≡ None
    → IsReadingEach counts inputs more new (given ++ pages ∷ [])
unfolding reading_on
each_more counts inputs lefts more it new given pages each left step same_pages end redo count failed =
    let read = each.reading in
    let on = step read.heads read.copies read.read in
    let page = content on.copies it.given in
    record {
      pages = each.pages ++ page ∷ [];
      reading = reading_on counts inputs lefts more it new each.pages page read left
          (record { copies = on.copies; read = on.read; same = on.same; is = refl }) same_pages end redo count failed;
      rows_made = rows_more it.end it.given read.heads inputs more new.cursors.items read.copies pages given on
          each.rows_made
          ∙ ap (λ n. rows on.copies n) (sym count);
      within = omega (
        arith,
        length_push given pages,
        ap length each.rows_made,
        length-map-range_with_len (row read.copies) 0 it.given,
        same_pages,
      );
    }

-- ---- what was given in the end

-- a copy that was read is that of its archive's header
headed : (end next : ℕ) (heads : List ArchiveHeader) (inputs lefts : List (Option (List ℕ)))
    (its : List ArchiveCursor) (copies : List CopyView) (k : ℕ) (h : ArchiveHeader)
    → AreRead end next 0 heads inputs lefts its copies → k < length its
    → get_or copies k no_copy ≡ copy_of (get_or (heads_of its) k h) (get_or copies k no_copy).pages
headed end next heads inputs lefts its copies k h read lt =
    let one = read.due k h None None (blank h) no_copy lt (omega arith) in
    one.is
    ∙ ap (λ (x : ArchiveHeader). copy_of x (get_or copies k no_copy).pages)
    (sym one.header ∙ sym (get_or-map (λ (c : ArchiveCursor). c.header) its k (blank h) h lt))

-- what both a header and its copy have
same_heads : {X : Type 0} (f : ArchiveHeader → X) (g : CopyView → X) (counts : PageCounts) (end next : ℕ)
    (heads : List ArchiveHeader) (inputs lefts : List (Option (List ℕ))) (its : List ArchiveCursor) (copies : List CopyView)
    → AreRead end next 0 heads inputs lefts its copies
    → ((h : ArchiveHeader) (copy : CopyView) → copy ≡ copy_of h copy.pages → f h ≡ g (completed counts copy))
    → map f (heads_of its) ≡ map g (map (completed counts) copies)
same_heads f g counts end next heads inputs lefts its copies read of_one =
    let long : length (heads_of its) ≡ length its = length-map its (λ (c : ArchiveCursor). c.header) in
    let wide : length (map (completed counts) copies) ≡ length copies = length-map copies (completed counts) in
    same_each f g (heads_of its) (map (completed counts) copies) (omega (arith, long, wide, read.copies_count))
    (λ k h copy lt.
    of_one (get_or (heads_of its) k h) (get_or copies k no_copy)
    (headed end next heads inputs lefts its copies k h read (omega (arith, long)))
    ∙ ap g (sym (get_or-map (completed counts) copies k no_copy copy (omega (arith, long, read.copies_count, lt)))))

same_id : (counts : PageCounts) (h : ArchiveHeader) (copy : CopyView) → copy ≡ copy_of h copy.pages → h.id ≡ (completed counts copy).id
unfolding completed
same_id counts h copy is = sym (ap (λ (c : CopyView). c.id) is)

same_redo : (counts : PageCounts) (h : ArchiveHeader) (copy : CopyView) → copy ≡ copy_of h copy.pages
    → h.redo ≡ (completed counts copy).redo
unfolding completed
same_redo counts h copy is = sym (ap (λ (c : CopyView). c.redo) is)

-- once all rows were given the archives spell a chain
pub each_whole : (counts : PageCounts) (inputs lefts : List (Option (List ℕ))) (it : ChainReader)
    (given : List (List (List Page))) → IsReadingEach counts inputs lefts it given → it.pages ≤ it.given
    → IsEachRead counts it.end inputs (ids_of it) (points_of it) given
each_whole counts inputs lefts it given each past =
    let read = each.reading in
    let copies = map (completed counts) read.copies in
    let whole = read_whole counts inputs lefts it each.pages read past in
    let same : whole.copies ≡ copies = whole_copies counts inputs lefts it each.pages read past in
    let all : it.given ≡ last_count counts = omega (arith, read.within, read.all) in
    record {
      copies = whole.copies;
      spelled = whole.spelled;
      fit = whole.fit;
      chain = whole.chain;
      within = whole.within;
      id_each = same_heads (λ (h : ArchiveHeader). h.id) (λ (c : CopyView). c.id) counts it.end (moment_of it.given)
          read.heads inputs lefts it.cursors.items read.copies read.read (same_id counts)
          ∙ ap (λ (cs : List CopyView). map (λ (c : CopyView). c.id) cs) (sym same);
      point_each = same_heads (λ (h : ArchiveHeader). h.redo) (λ (c : CopyView). c.redo) counts it.end
          (moment_of it.given) read.heads inputs lefts it.cursors.items read.copies read.read (same_redo counts)
          ∙ ap (λ (cs : List CopyView). map (λ (c : CopyView). c.redo) cs) (sym same);
      made = each.rows_made
          ∙ same_maps (row read.copies) (row copies) it.given (λ p lt. sym (row_completed counts p read.copies))
          ∙ ap (λ m. rows copies m) all ∙ ap (λ (cs : List CopyView). rows cs (last_count counts)) (sym same);
    }

-- ---- what the headers have

pub of_head : (f : ArchiveHeader → ℕ) (its : List ArchiveCursor) (i : ℕ) (it : ArchiveCursor)
    → i < length (map f (heads_of its)) → it ≡ get_or its i it → f it.header ≡ get_or (map f (heads_of its)) i 0
of_head f its i it lt is =
    let header : ArchiveCursor → ArchiveHeader = λ c. c.header in
    let long : i < length (heads_of its) = omega (arith, lt, length-map (heads_of its) f) in
    let there : i < length its = omega (arith, long, length-map its header) in
    ap (λ (c : ArchiveCursor). f c.header) is ∙ ap f (sym (get_or-map header its i it it.header there))
    ∙ sym (get_or-map f (heads_of its) i it.header 0 long)
