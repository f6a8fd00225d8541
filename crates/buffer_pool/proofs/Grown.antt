-- A volume that grows: the states of the added pages, and the pool of the log with an Extend behind it.
use Rattle.std.proofs.Common.{◌≡◌, ℕ, zero, suc, ◌+◌, ◌-◌, ◌<◌, ◌≤◌, ◌++◌, ◌∷◌, [], List, length, get_or, map, replicate}
use Rattle.std.proofs.Common.{refl, sym, ap, subst, ◌∙◌, arith, inl, inr, max, true≢false}
use Rattle.std.specs.Prelude.{Option, Some, None, IfSome, is_none, false, Result, Ok, Err, OnErr}
use Rattle.std.specs.List.{All, range_with_len}
use Rattle.std.proofs.Math.Nat.{max-eq_right}
use Rattle.std.proofs.lemmas.Bool.{cases_lt}
use Rattle.std.proofs.lemmas.List.{append-nil, append_assoc, get_or_append_left, get_or-append_right, get_or_past, get_or-replicate}
use Rattle.std.proofs.lemmas.List.{length-append, length-map, length-replicate, map-append, same_lists}
use Rattle.std.proofs.lemmas.List.Elements.{All-weaker}
use Rattle.std.proofs.lemmas.List.FromFn.{get_or-map-range_with_len, length-map-range_with_len}
use Rattle.page_core.specs.declared.page.Page.{Page}
use Rattle.page_core.specs.Page.{formatted}
use Rattle.page_core.specs.Volume.{AreNumbered, grown_to}
use Rattle.page_core.proofs.Public.{length-grown_to, numbered-grown_to}
use Rattle.log_records.specs.Coverage.{AreStored, IsStored, IsWriting, rec_lsn}
use Rattle.log_records.specs.Image.{image}
use Rattle.log_records.specs.Log.{IsLog, Log, page_count, with_next}
use Rattle.log_records.specs.declared.record.Record.{Record}
use Rattle.log_records.specs.declared.record.Record.TheVariants.{Extend}
use Rattle.log_records.proofs.Public.{image_is_clean}
use Rattle.log_records.proofs.Public.{page_count-push}
use Rattle.log_records.proofs.Public.{image_past}
use Rattle.log_records.proofs.Public.{past_now, stored_later}
use Rattle.buffer_pool.specs.Marks.{MarksView, PassesNone, has_clean}
use Rattle.buffer_pool.specs.PageStates.{AreColumns, states_of}
use Rattle.buffer_pool.specs.Pool.{IsPoolOf, IsStateOf, IsWhole, PageState, PoolView, grown_pool, grown_states}
use Rattle.buffer_pool.specs.Pool.{is_clean_in, unwritten, writing_of, written_of}
use Rattle.buffer_pool.proofs.Columns.{count_is, get_or-states_of, length-states_of, row}
use Rattle.buffer_pool.proofs.Pools.{images_later, none_changes, own_is}
use Rattle.buffer_pool.proofs.States.{state_same}

-- ---- a list with more of one element behind it

pub extended_none : {X : Type 0} (xs : List X) (count : ℕ) (x : X) → count ≤ length xs
    → xs ++ replicate (count - length xs) x ≡ xs
extended_none xs count x le =
    let none : count - length xs ≡ 0 = omega arith in
    ap (λ (k : ℕ). xs ++ replicate k x) none ∙ append-nil xs

replicate-more : {X : Type 0} (n : ℕ) (x : X) → replicate (suc n) x ≡ replicate n x ++ x ∷ []
replicate-more zero x = refl
replicate-more (suc n) x = ap (λ ys. x ∷ ys) (replicate-more n x)

pub extended_more : {X : Type 0} (xs : List X) (place : ℕ) (x : X) → length xs ≤ place
    → xs ++ replicate (place + 1 - length xs) x ≡ (xs ++ replicate (place - length xs) x) ++ x ∷ []
extended_more xs place x le =
    let more : place + 1 - length xs ≡ suc (place - length xs) = omega arith in
    ap (λ (k : ℕ). xs ++ replicate k x) more
    ∙ ap (λ ys. xs ++ ys) (replicate-more (place - length xs) x)
    ∙ sym (append_assoc xs (replicate (place - length xs) x) (x ∷ []))

-- it says the same at each place, if that element is what is said past its end
pub extended_at : {X : Type 0} (xs : List X) (k p : ℕ) (d : X) → get_or (xs ++ replicate k d) p d ≡ get_or xs p d
extended_at xs k p d = elim (cases_lt p (length xs)) [
  | inl low ↦ get_or_append_left xs (replicate k d) d p low
  | inr past ↦
      get_or-append_right xs (replicate k d) (length xs) p d refl past
      ∙ (elim (cases_lt (p - length xs) k) [
        | inl below ↦ get_or-replicate k (p - length xs) d d below
        | inr high ↦ get_or_past (replicate k d) (p - length xs) d (omega (arith, length-replicate k d))
      ])
      ∙ sym (get_or_past xs p d past)
]

pub length-extended : {X : Type 0} (xs : List X) (count : ℕ) (x : X)
    → length (xs ++ replicate (count - length xs) x) ≡ length xs + (count - length xs)
length-extended xs count x =
    length-append xs (replicate (count - length xs) x)
    ∙ ap (λ (k : ℕ). length xs + k) (length-replicate (count - length xs) x)

pub map-extended : {X Y : Type 0} (f : X → Y) (xs : List X) (k : ℕ) (x : X)
    → map f (xs ++ replicate k x) ≡ map f xs ++ replicate k (f x)
map-extended f xs k x =
    map-append f xs (replicate k x) ∙ ap (λ ys. map f xs ++ ys) (copies k)
  where
    copies : (k : ℕ) → map f (replicate k x) ≡ replicate k (f x)
    copies zero = refl
    copies (suc k) = ap (λ ys. f x ∷ ys) (copies k)

-- ---- the columns

module _ (written : List ℕ) (rec_lsns : List (Option ℕ)) (images : List (Option Page)) (firsts : List (Option ℕ))
    (count : ℕ) (columns : AreColumns written rec_lsns images firsts) where
  abbrev pub written' : List ℕ
  written' = written ++ replicate (count - length written) 0

  abbrev pub rec_lsns' : List (Option ℕ)
  rec_lsns' = rec_lsns ++ replicate (count - length rec_lsns) None

  abbrev pub images' : List (Option Page)
  images' = images ++ replicate (count - length images) None

  abbrev pub firsts' : List (Option ℕ)
  firsts' = firsts ++ replicate (count - length firsts) None

  row_same : (p : ℕ) → row written' rec_lsns' images' firsts' p ≡ row written rec_lsns images firsts p
  row_same p = rw (
    extended_at written (count - length written) p 0,
    extended_at rec_lsns (count - length rec_lsns) p None,
    extended_at images (count - length images) p None,
    extended_at firsts (count - length firsts) p None,
  ) refl

  row_past : (p : ℕ) → length written ≤ p → row written rec_lsns images firsts p ≡ unwritten
  row_past p past = rw (
    get_or_past written p 0 past,
    get_or_past rec_lsns p None (omega (arith, columns.rec_lsn_count)),
    get_or_past images p None (omega (arith, columns.image_count)),
    get_or_past firsts p None (omega (arith, columns.since_count)),
  ) refl

  pub columns_grown : (states : List PageState) → states_of written rec_lsns images firsts ≡ states
      → states_of written' rec_lsns' images' firsts' ≡ grown_states count states
  columns_grown states view =
      let n = count_is written rec_lsns images firsts states view in
      let more = length-extended written count 0 in
      let long = length-states_of written' rec_lsns' images' firsts' in
      let wide = length-extended states count unwritten in
      same_lists (states_of written' rec_lsns' images' firsts') (grown_states count states)
      (omega (arith, n, more, long, wide)) (λ p d lt.
      let known : p < length written' = omega (arith, long) in
      get_or-states_of written' rec_lsns' images' firsts' p d known ∙ row_same p
      ∙ (elim (cases_lt p (length states)) [
        | inl low ↦
            sym (get_or_append_left states (replicate (count - length states) unwritten) d p low
            ∙ ap (λ (xs : List PageState). get_or xs p d) (sym view)
            ∙ get_or-states_of written rec_lsns images firsts p d (omega (arith, n)))
        | inr past ↦
            row_past p (omega (arith, n))
            ∙ sym (get_or-append_right states (replicate (count - length states) unwritten) (length states) p d refl past
            ∙ get_or-replicate (count - length states) (p - length states) unwritten d
            (omega (arith, n, more, long)))
      ]))

  pub are_grown : count ≤ 65536 → AreColumns written' rec_lsns' images' firsts'
  are_grown few =
      let long_written = length-extended written count 0 in
      let long_rec_lsns = length-extended rec_lsns count None in
      let long_images = length-extended images count None in
      let long_firsts = length-extended firsts count None in
      record {
        few = omega (arith, columns.few, long_written);
        rec_lsn_count = omega (arith, columns.rec_lsn_count, long_written, long_rec_lsns);
        image_count = omega (arith, columns.image_count, long_written, long_images);
        since_count = omega (arith, columns.since_count, long_written, long_firsts);
        numbers = λ p lt.
            subst (λ (o : Option Page). IfSome o (λ q. q.number ≡ p))
            (sym (extended_at images (count - length images) p None)) (numbered p);
      }
    where
      numbered : (p : ℕ) → IfSome (get_or images p None) (λ q. q.number ≡ p)
      numbered p = elim (cases_lt p (length images)) [
        | inl low ↦ columns.numbers p low
        | inr past ↦ subst (λ (o : Option Page). IfSome o (λ q. q.number ≡ p)) (sym (get_or_past images p None past)) tt
      ]

-- a table of so many pages that was empty
pub new_states : (states after : List PageState) (count : ℕ) → length states ≡ 0 → after ≡ grown_states count states
    → after ≡ replicate count unwritten
new_states [] after count none is = let all : count - 0 ≡ count = omega arith in
    is ∙ ap (λ (k : ℕ). replicate k unwritten) all
new_states (s ∷ states) after count none is = absurd (omega (arith, none))

-- ---- which pages are clean

pub clean_grown : (states : List PageState) (count n : ℕ) → is_clean_in (grown_states count states) n ≡ is_clean_in states n
clean_grown states count n =
    ap (λ (s : PageState). is_none s.rec_lsn) (extended_at states (count - length states) n unwritten)

pub sought_grown : (states : List PageState) (count : ℕ) (after : List PageState) (slots : List (Option Page))
    (marks : MarksView) → after ≡ grown_states count states → PassesNone (is_clean_in states) slots marks
    → PassesNone (is_clean_in after) slots marks
sought_grown states count after slots marks is sought = λ k d there passed.
    by (get_or slots k d) (sought k d there passed)
  where
    by : (slot : Option Page) → has_clean (is_clean_in states) slot ≡ false → has_clean (is_clean_in after) slot ≡ false
    by None before = refl
    by (Some page) before =
        ap (λ (ss : List PageState). is_clean_in ss page.number) is ∙ clean_grown states count page.number ∙ before

pub whole_stored : (stored new : List Page) (states : List PageState) (added : ℕ) → new ≡ grown_to added stored
    → IsWhole stored states → IsWhole new states
whole_stored stored new states added grown whole =
    let more = ap length grown ∙ length-grown_to added stored in
    record {
      few = whole.few;
      enough = omega (arith, whole.enough, more);
      stored_numbers = subst AreNumbered (sym grown) (numbered-grown_to added stored whole.stored_numbers);
    }

pub whole_grown : (stored new : List Page) (states after : List PageState) (count added : ℕ)
    → new ≡ grown_to added stored → after ≡ grown_states count states
    → count ≤ length new → count ≤ 65536 → IsWhole stored states → IsWhole new after
whole_grown stored new states after count added grown is enough few whole =
    let before = whole_stored stored new states added grown whole in
    let long : length after ≡ length states + (count - length states) =
    ap length is ∙ length-extended states count unwritten in
    record {
      few = omega (arith, before.few, few, long);
      enough = omega (arith, before.enough, enough, long);
      stored_numbers = before.stored_numbers;
    }

-- ---- the pool

-- a page past the volume is in the state that it has in the pool of its log
state_past : (log : Log) (p : ℕ) → IsLog log → page_count log ≤ p → IsStateOf log p unwritten
unfolding formatted
state_past log p valid past =
    let zero_lsn : (image log.records p).lsn ≡ 0 = ap (λ (q : Page). q.lsn) (image_past log p valid past) in
    record {
      written = omega arith;
      image = tt;
      since = refl;
      dirty = sym (subst (λ (n : ℕ). rec_lsn log.records p n ≡ None) zero_lsn (image_is_clean log p valid));
      idle = λ clean. refl;
    }

-- formatted pages are stored behind the others
pub stored_grown : (log : Log) (stored : List Page) (count : ℕ) (written : List ℕ) (writing : List (Option Page)) → IsLog log
    → page_count log ≤ length stored → length written ≤ length stored → length writing ≤ length stored
    → AreStored log.records stored written writing → AreStored log.records (grown_to count stored) written writing
stored_grown log stored count written writing valid enough few_written few_writing are = record {
  pages = λ p d lt. elim (cases_lt p (length stored)) [
    | inl low ↦
        subst (λ (q : Page). IsStored log.records p q (get_or written p 0)) (sym (old p d low)) (are.pages p d low)
    | inr past ↦
        let none = get_or_past written p 0 (omega arith) in
        subst (λ (q : Page). IsStored log.records p q (get_or written p 0)) (sym (added p d past lt))
        (record { past = past_now log.records p; reached = omega (arith, none) })
  ];
  images = λ p d lt. elim (cases_lt p (length stored)) [
    | inl low ↦
        subst (λ (q : Page). IfSome (get_or writing p None) (IsWriting log.records p q)) (sym (old p d low))
        (are.images p d low)
    | inr past ↦
        subst (λ (o : Option Page). IfSome o (IsWriting log.records p (get_or (grown_to count stored) p d)))
        (sym (get_or_past writing p None (omega arith))) tt
  ];
}
  where
    left : ℕ
    left = count - length stored

    old : (p : ℕ) (d : Page) → p < length stored → get_or (grown_to count stored) p d ≡ get_or stored p d
    old p d low =
        get_or_append_left stored (map formatted (range_with_len (length stored) (count - length stored))) d p low

    added : (p : ℕ) (d : Page) → length stored ≤ p → p < length (grown_to count stored)
        → get_or (grown_to count stored) p d ≡ image log.records p
    added p d past lt =
        let left = count - length stored in
        let behind = map formatted (range_with_len (length stored) left) in
        let more : length behind ≡ left = length-map-range_with_len formatted (length stored) left in
        let low : p - length stored < left = omega (arith, length-append stored behind) in
        get_or-append_right stored behind (length stored) p d refl past
        ∙ get_or-map-range_with_len formatted (length stored) left (p - length stored) p d low (omega arith)
        ∙ sym (image_past log p valid (omega arith))

-- nothing was written of the pages behind them
pub stored_extended : (rs : List Record) (stored : List Page) (written : List ℕ) (writing : List (Option Page)) (j k : ℕ)
    → AreStored rs stored written writing
    → AreStored rs stored (written ++ replicate j 0) (writing ++ replicate k None)
stored_extended rs stored written writing j k are = record {
  pages = λ p d lt.
      subst (IsStored rs p (get_or stored p d)) (sym (extended_at written j p 0)) (are.pages p d lt);
  images = λ p d lt.
      subst (λ (o : Option Page). IfSome o (IsWriting rs p (get_or stored p d)))
      (sym (extended_at writing k p None)) (are.images p d lt);
}

-- the store alone has grown
pub pool_stored : {S : Type 0} (stored_in : S → List Page) (log : Log) (pool : PoolView S) (store : S) (count : ℕ)
    → length pool.states ≤ length (stored_in pool.store) → stored_in store ≡ grown_to count (stored_in pool.store)
    → IsPoolOf stored_in log pool → IsPoolOf stored_in log (record pool { store = store })
pool_stored stored_in log pool store count enough grown is =
    let states = pool.states in
    let many_written = length-map states (λ (s : PageState). s.written) in
    let many_writing = length-map states (λ (s : PageState). s.writing) in
    record {
      valid = is.valid;
      pages = is.pages;
      few = is.few;
      within = is.within;
      resident = is.resident;
      held = is.held;
      states = is.states;
      stored = rw grown (stored_grown log (stored_in pool.store) count (written_of states) (writing_of states) is.valid
          (omega (arith, is.pages)) (omega (arith, many_written)) (omega (arith, many_writing)) is.stored);
    }

-- the volume has grown to as many pages as an Extend behind the log says
pub pool_grown : {S : Type 0} (stored_in : S → List Page) (log : Log) (pool : PoolView S) (lsn count : ℕ)
    → length pool.states ≤ count → IsLog (with_next log (Extend lsn count ∷ [])) → IsPoolOf stored_in log pool
    → IsPoolOf stored_in (with_next log (Extend lsn count ∷ [])) (grown_pool count pool)
pool_grown stored_in log pool lsn count more valid is =
    let rs = log.records in
    let next = Extend lsn count in
    let states = pool.states in
    let k = count - length states in
    let after = grown_states count states in
    let long = length-extended states count unwritten in
    let own = own_is log next valid in
    let most : max (page_count log) count ≡ count = most_is (page_count log) count (omega (arith, is.pages)) in
    let many_written = length-map states (λ (s : PageState). s.written) in
    let many_writing = length-map states (λ (s : PageState). s.writing) in
    record {
      valid = valid;
      pages = page_count-push log next ∙ most ∙ omega (arith, long, more);
      few = is.few;
      within = All-weaker (λ page. page.number < length states) (λ page. page.number < length after)
          (λ page lt. omega (arith, long)) pool.resident is.within;
      resident = subst (λ (pages : List Page). All (λ page. page ≡ image (rs ++ next ∷ []) page.number) pages)
          (none_changes next pool.resident refl) (images_later rs next pool.resident is.resident);
      held = λ p lt dirty. elim (cases_lt p (length states)) [
        | inl low ↦ is.held p low (sym (clean_grown states count p) ∙ dirty)
        | inr past ↦
            absurd (true≢false (sym (ap (λ (s : PageState). is_none s.rec_lsn) (get_or_past states p unwritten past))
            ∙ sym (clean_grown states count p) ∙ dirty))
      ];
      states = λ p d lt. elim (cases_lt p (length states)) [
        | inl low ↦
            subst (IsStateOf (with_next log (next ∷ [])) p)
            (sym (get_or_append_left states (replicate k unwritten) d p low))
            (state_same log next p (get_or states p d) is.valid own refl (is.states p d low))
        | inr past ↦
            let below : p - length states < k = omega (arith, long) in
            subst (IsStateOf (with_next log (next ∷ [])) p)
            (sym (get_or-append_right states (replicate k unwritten) (length states) p d refl past
            ∙ get_or-replicate k (p - length states) unwritten d below))
            (state_same log next p unwritten is.valid own refl (state_past log p is.valid (omega (arith, is.pages))))
      ];
      stored = rw (
        map-extended (λ (s : PageState). s.written) states k unwritten,
        map-extended (λ (s : PageState). s.writing) states k unwritten,
      ) (stored_later rs (next ∷ []) (stored_in pool.store) (written_of states ++ replicate k 0)
          (writing_of states ++ replicate k None)
          (stored_extended rs (stored_in pool.store) (written_of states) (writing_of states) k k is.stored));
    }
  where
    most_is : (n m : ℕ) → n ≤ m → max n m ≡ m
    most_is n m le = max-eq_right le

pub if_err : {T E : Type 0} (r : Result T E) (P : Type 0) → P → OnErr r P
if_err (Ok x) P h = tt
if_err (Err e) P h = h
