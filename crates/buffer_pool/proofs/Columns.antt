-- The states of the pages, and the columns of the table that they are kept in.
use Rattle.std.proofs.Common.{◌≡◌, ℕ, ◌<◌, List, length, get_or, set, map, refl, sym, ap, ◌∙◌, arith}
use Rattle.std.proofs.Common.{inl, inr, replicate}
use Rattle.std.specs.Prelude.{Option, Some, None, MatchOption, is_some, if◌then◌else◌}
use Rattle.std.specs.Option.{unwrap_or}
use Rattle.std.proofs.lemmas.Bool.{cases_eq}
use Rattle.std.proofs.lemmas.List.{get_or-map, get_or-set_other, get_or-set_same, get_or_read, get_or-replicate}
use Rattle.std.proofs.lemmas.List.{length-map, length-replicate}
use Rattle.std.proofs.lemmas.List.{length-set, same_lists, set-get_or}
use Rattle.std.proofs.lemmas.List.FromFn.{get_or-map-range_with_len, length-map-range_with_len}
use Rattle.page_core.specs.declared.page.Page.{Page}
use Rattle.log_records.specs.declared.dirty_page.DirtyPage.{DirtyPage}
use Rattle.buffer_pool.specs.PageStates.{AreClean, AreColumns, IsFirstDirty, states_of}
use Rattle.buffer_pool.specs.Pool.{PageState, changed, state_in, unwritten, write_begun, write_ended}
use Rattle.buffer_pool.specs.RecLsns.{HasNoneDirty, IsFirstEntry}

-- a row of the table
abbrev pub row : List ℕ → List (Option ℕ) → List (Option Page) → List (Option ℕ) → ℕ → PageState
row written rec_lsns images firsts p = record {
  written = get_or written p 0;
  rec_lsn = get_or rec_lsns p None;
  writing = get_or images p None;
  since = get_or firsts p None;
}

pub length-states_of : (written : List ℕ) (rec_lsns : List (Option ℕ)) (images : List (Option Page))
    (firsts : List (Option ℕ)) → length (states_of written rec_lsns images firsts) ≡ length written
unfolding states_of
length-states_of written rec_lsns images firsts =
    length-map-range_with_len (row written rec_lsns images firsts) 0 (length written)

pub get_or-states_of : (written : List ℕ) (rec_lsns : List (Option ℕ)) (images : List (Option Page))
    (firsts : List (Option ℕ)) (p : ℕ) (d : PageState) → p < length written
    → get_or (states_of written rec_lsns images firsts) p d ≡ row written rec_lsns images firsts p
unfolding states_of
get_or-states_of written rec_lsns images firsts p d lt =
    get_or-map-range_with_len (row written rec_lsns images firsts) 0 (length written) p p d lt (omega arith)

-- the columns of the states are those of the table
pub map-states_of : {X : Type 0} (part : PageState → X) (written : List ℕ) (rec_lsns : List (Option ℕ))
    (images : List (Option Page)) (firsts : List (Option ℕ)) (column : List X) → length column ≡ length written
    → ((p : ℕ) (d : X) → p < length written → part (row written rec_lsns images firsts p) ≡ get_or column p d)
    → map part (states_of written rec_lsns images firsts) ≡ column
map-states_of part written rec_lsns images firsts column count is =
    let states = states_of written rec_lsns images firsts in
    let long : length states ≡ length written = length-states_of written rec_lsns images firsts in
    same_lists (map part states) column (length-map states part ∙ long ∙ sym count) (λ p d lt.
    let below : p < length states = omega (arith, length-map states part) in
    let known : p < length written = omega arith in
    let state = row written rec_lsns images firsts p in
    get_or-map part states p state d below
    ∙ ap part (get_or-states_of written rec_lsns images firsts p state known) ∙ is p d known)

-- a row that is replaced
pub set-states_of : (written : List ℕ) (rec_lsns : List (Option ℕ)) (images : List (Option Page))
    (firsts : List (Option ℕ)) (n : ℕ) (s : PageState) → n < length written → n < length rec_lsns → n < length images
    → n < length firsts
    → states_of (set written n s.written) (set rec_lsns n s.rec_lsn) (set images n s.writing) (set firsts n s.since)
    ≡ set (states_of written rec_lsns images firsts) n s
set-states_of written rec_lsns images firsts n s lt_written lt_rec_lsns lt_images lt_firsts =
    let states = states_of written rec_lsns images firsts in
    let written' = set written n s.written in
    let rec_lsns' = set rec_lsns n s.rec_lsn in
    let images' = set images n s.writing in
    let firsts' = set firsts n s.since in
    let long : length states ≡ length written = length-states_of written rec_lsns images firsts in
    let long' : length (states_of written' rec_lsns' images' firsts') ≡ length written =
    length-states_of written' rec_lsns' images' firsts' ∙ length-set written n s.written in
    same_lists (states_of written' rec_lsns' images' firsts') (set states n s)
    (long' ∙ sym (length-set states n s ∙ long)) (λ p d lt.
    let known : p < length written = omega arith in
    let known' : p < length written' = omega (arith, length-set written n s.written) in
    get_or-states_of written' rec_lsns' images' firsts' p d known' ∙ elim (cases_eq p n) [
      | inl same ↦
          ap (row written' rec_lsns' images' firsts') same
          ∙ rw (
            get_or-set_same written n s.written 0 lt_written,
            get_or-set_same rec_lsns n s.rec_lsn None lt_rec_lsns,
            get_or-set_same images n s.writing None lt_images,
            get_or-set_same firsts n s.since None lt_firsts,
          ) refl
          ∙ sym (ap (λ (k : ℕ). get_or (set states n s) k d) same ∙ get_or-set_same states n s d (omega arith))
      | inr other ↦
          rw (
            get_or-set_other written n p s.written 0 other,
            get_or-set_other rec_lsns n p s.rec_lsn None other,
            get_or-set_other images n p s.writing None other,
            get_or-set_other firsts n p s.since None other,
          ) refl
          ∙ sym (get_or-set_other states n p s d other ∙ get_or-states_of written rec_lsns images firsts p d known)
    ])

-- the state of a page is its row
pub state_is : (written : List ℕ) (rec_lsns : List (Option ℕ)) (images : List (Option Page)) (firsts : List (Option ℕ))
    (states : List PageState) (p : ℕ) → states_of written rec_lsns images firsts ≡ states → p < length states
    → state_in states p ≡ row written rec_lsns images firsts p
state_is written rec_lsns images firsts states p view lt =
    let known : p < length written =
    omega (arith, ap length view, length-states_of written rec_lsns images firsts) in
    ap (λ (xs : List PageState). state_in xs p) (sym view)
    ∙ get_or-states_of written rec_lsns images firsts p unwritten known

-- there are as many pages as the columns are long
pub count_is : (written : List ℕ) (rec_lsns : List (Option ℕ)) (images : List (Option Page)) (firsts : List (Option ℕ))
    (states : List PageState) → states_of written rec_lsns images firsts ≡ states → length written ≡ length states
count_is written rec_lsns images firsts states view =
    sym (length-states_of written rec_lsns images firsts) ∙ ap length view

-- a page has a place in each column
pub record HasPlaces (written : List ℕ) (rec_lsns : List (Option ℕ)) (images : List (Option Page))
    (firsts : List (Option ℕ)) (n : ℕ) : Type 0 where
  pub in_written : n < length written
  pub in_rec_lsns : n < length rec_lsns
  pub in_images : n < length images
  pub in_firsts : n < length firsts

pub places : (written : List ℕ) (rec_lsns : List (Option ℕ)) (images : List (Option Page)) (firsts : List (Option ℕ))
    (states : List PageState) (m n : ℕ) → states_of written rec_lsns images firsts ≡ states
    → AreColumns written rec_lsns images firsts → n < length states → m ≡ n
    → HasPlaces written rec_lsns images firsts m
places written rec_lsns images firsts states m n view columns there same =
    let count = count_is written rec_lsns images firsts states view in
    record {
      in_written = omega arith;
      in_rec_lsns = omega (arith, columns.rec_lsn_count);
      in_images = omega (arith, columns.image_count);
      in_firsts = omega (arith, columns.since_count);
    }

-- what is read of a column
pub read_at : {X : Type 0} (xs : List X) (i n : ℕ) (x d : X) → x ≡ get_or xs i x → i < length xs → i ≡ n
    → x ≡ get_or xs n d
read_at xs i n x d read lt same =
    get_or_read xs i x lt read d ∙ ap (λ (k : ℕ). get_or xs k d) same

-- ---- what a call leaves

-- a column that a call leaves as it is
pub kept : {X : Type 0} (xs : List X) (n : ℕ) (x d : X) → x ≡ get_or xs n d → xs ≡ set xs n x
kept xs n x d e = sym (ap (set xs n) e ∙ set-get_or xs n d)

-- one that it sets
pub put_at : {X : Type 0} (xs : List X) (m n : ℕ) (x y : X) → m ≡ n → x ≡ y → set xs m x ≡ set xs n y
put_at xs m n x y same e = ap (λ (k : ℕ). set xs k x) same ∙ ap (set xs n) e

module _ (written : List ℕ) (rec_lsns : List (Option ℕ)) (images : List (Option Page)) (firsts : List (Option ℕ))
    (states : List PageState) (n : ℕ) (view : states_of written rec_lsns images firsts ≡ states)
    (there : n < length states) (columns : AreColumns written rec_lsns images firsts) where
  old : PageState
  old = row written rec_lsns images firsts n

  -- the columns with another state of the page
  set_is : (written' : List ℕ) (rec_lsns' : List (Option ℕ)) (images' : List (Option Page)) (firsts' : List (Option ℕ))
      (s : PageState) → written' ≡ set written n s.written → rec_lsns' ≡ set rec_lsns n s.rec_lsn
      → images' ≡ set images n s.writing → firsts' ≡ set firsts n s.since
      → states_of written' rec_lsns' images' firsts' ≡ set states n s
  set_is written' rec_lsns' images' firsts' s e_written e_rec_lsns e_images e_firsts =
      let count = count_is written rec_lsns images firsts states view in
      rw (e_written, e_rec_lsns, e_images, e_firsts)
      (set-states_of written rec_lsns images firsts n s (omega arith) (omega (arith, columns.rec_lsn_count))
      (omega (arith, columns.image_count)) (omega (arith, columns.since_count))
      ∙ ap (λ (xs : List PageState). set xs n s) view)

  state : state_in states n ≡ old
  unfolding old
  state = state_is written rec_lsns images firsts states n view there

  pub is_changed : (lsn : ℕ) (rec_lsns' firsts' : List (Option ℕ))
      → rec_lsns' ≡ set rec_lsns n (Some (unwrap_or (get_or rec_lsns n None) lsn))
      → firsts' ≡ set firsts n (if is_some (get_or images n None) then Some (unwrap_or (get_or firsts n None) lsn)
      else get_or firsts n None)
      → states_of written rec_lsns' images firsts' ≡ set states n (changed (state_in states n) lsn)
  unfolding old
  is_changed lsn rec_lsns' firsts' first since =
      set_is written rec_lsns' images firsts' (changed old lsn) (kept written n (get_or written n 0) 0 refl)
      first (kept images n (get_or images n None) None refl) since
      ∙ ap (λ (s : PageState). set states n (changed s lsn)) (sym state)

  pub is_begun : (m : ℕ) (q : Page) → m ≡ n
      → states_of written rec_lsns (set images m (Some q)) (set firsts m None)
      ≡ set states n (write_begun (state_in states n) q)
  unfolding old
  is_begun m q same =
      set_is written rec_lsns (set images m (Some q)) (set firsts m None) (write_begun old q)
      (kept written n (get_or written n 0) 0 refl) (kept rec_lsns n (get_or rec_lsns n None) None refl)
      (put_at images m n (Some q) (Some q) same refl) (put_at firsts m n None None same refl)
      ∙ ap (λ (s : PageState). set states n (write_begun s q)) (sym state)

  pub is_ended : (m lsn : ℕ) (rec_lsns' : List (Option ℕ)) → m ≡ n → rec_lsns' ≡ set rec_lsns n (get_or firsts n None)
      → states_of (set written m lsn) rec_lsns' (set images m None) (set firsts m None)
      ≡ set states n (write_ended (state_in states n) lsn)
  unfolding old
  is_ended m lsn rec_lsns' same first =
      set_is (set written m lsn) rec_lsns' (set images m None) (set firsts m None) (write_ended old lsn)
      (put_at written m n lsn lsn same refl) first
      (put_at images m n None None same refl) (put_at firsts m n None None same refl)
      ∙ ap (λ (s : PageState). set states n (write_ended s lsn)) (sym state)

-- ---- which of them are dirty

-- no page, or the first, that the column of RecLSNs says
pub first_is : (written : List ℕ) (rec_lsns : List (Option ℕ)) (images : List (Option Page)) (firsts : List (Option ℕ))
    (states : List PageState) (from : ℕ) (r : Option DirtyPage) → states_of written rec_lsns images firsts ≡ states
    → length rec_lsns ≡ length written
    → MatchOption r (HasNoneDirty rec_lsns from (length rec_lsns)) (IsFirstEntry rec_lsns from)
    → MatchOption r (AreClean states from (length states)) (IsFirstDirty states from)
first_is written rec_lsns images firsts states from r view long first = of_column r first
  where
    count : length rec_lsns ≡ length states
    count = long ∙ count_is written rec_lsns images firsts states view

    at : (p : ℕ) → p < length states → (state_in states p).rec_lsn ≡ get_or rec_lsns p None
    at p lt = ap (λ (s : PageState). s.rec_lsn) (state_is written rec_lsns images firsts states p view lt)

    of_column : (r : Option DirtyPage)
        → MatchOption r (HasNoneDirty rec_lsns from (length rec_lsns)) (IsFirstEntry rec_lsns from)
        → MatchOption r (AreClean states from (length states)) (IsFirstDirty states from)
    of_column None none = λ p le lt. at p lt ∙ none p le (omega (arith, count))
    of_column (Some e) found =
        let within = found.within in
        record {
          later = found.later;
          within = omega (arith, count);
          is_dirty = at e.page (omega (arith, count)) ∙ found.is_dirty;
          first = λ p le lt. at p (omega (arith, count)) ∙ found.first p le lt;
        }

-- ---- the columns of a new table

pub is_new : (count : ℕ) (written : List ℕ) (rec_lsns : List (Option ℕ)) (images : List (Option Page))
    (firsts : List (Option ℕ)) → written ≡ replicate count 0 → rec_lsns ≡ replicate count None
    → images ≡ replicate count None → firsts ≡ replicate count None
    → states_of written rec_lsns images firsts ≡ replicate count unwritten
is_new count written rec_lsns images firsts e_written e_rec_lsns e_images e_firsts =
    let states = states_of written rec_lsns images firsts in
    let long : length written ≡ count = ap length e_written ∙ length-replicate count 0 in
    let long' : length states ≡ count = length-states_of written rec_lsns images firsts ∙ long in
    same_lists states (replicate count unwritten) (long' ∙ sym (length-replicate count unwritten)) (λ p d lt.
    let below : p < count = omega arith in
    let known : p < length written = omega arith in
    get_or-states_of written rec_lsns images firsts p d known
    ∙ rw (e_written, e_rec_lsns, e_images, e_firsts)
    (empty_row p below)
    ∙ sym (get_or-replicate count p unwritten d below))
  where
    empty_row : (p : ℕ) → p < count
        → row (replicate count 0) (replicate count None) (replicate count None) (replicate count None) p ≡ unwritten
    empty_row p below =
        let zeros : List ℕ = replicate count 0 in
        let lsns : List (Option ℕ) = replicate count None in
        let images : List (Option Page) = replicate count None in
        let zero_at : get_or zeros p 0 ≡ 0 = get_or-replicate count p 0 0 below in
        let lsn_at : get_or lsns p None ≡ None = get_or-replicate count p None None below in
        let image_at : get_or images p None ≡ None = get_or-replicate count p None None below in
        rw (zero_at, lsn_at, image_at) refl
