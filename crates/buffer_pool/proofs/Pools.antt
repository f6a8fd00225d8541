-- A pool of a log, while the log grows and writes go on.
use Rattle.std.proofs.Common.{◌≡◌, ◌≢◌, ℕ, zero, suc, ◌<◌, ◌≤◌, List, [], ◌∷◌, ◌++◌, length, get_or, set, map}
use Rattle.std.proofs.Common.{refl, sym, ap, subst, ◌∙◌, arith, inl, inr, replicate, Bool, ◌||◌, true≢false}
use Rattle.std.specs.Prelude.{Option, Some, None, IfSome, IsSome, ◌==◌, false, is_none}
use Rattle.std.specs.List.{All}
use Rattle.std.specs.Option.{option_map_or}
use Rattle.std.proofs.lemmas.Bool.{cases_eq, eq-eqb, ne_eqb}
use Rattle.std.proofs.lemmas.List.{get_or-map, get_or-replicate, get_or-set_other, get_or-set_same, length-map}
use Rattle.std.proofs.lemmas.List.{get_or_push, length-replicate, length-set, length_push, map-set, set-get_or}
use Rattle.std.proofs.lemmas.List.Folds.{list_any_at, list_any_none}
use Rattle.std.proofs.lemmas.List.Elements.{All-map, All-nil, All-weaker}
use Rattle.std.proofs.lemmas.List.FromFn.{get_or-map-range_with_len, length-map-range_with_len}
use Rattle.page_core.specs.declared.page.Page.{Page}
use Rattle.page_core.specs.Page.{formatted}
use Rattle.page_core.specs.Volume.{formatted_pages}
use Rattle.log_records.specs.declared.record.Record.{Record}
use Rattle.log_records.specs.declared.page_change.PageChange.{PageChange}
use Rattle.log_records.specs.Image.{image, with_change, with_record}
use Rattle.log_records.specs.Log.{IsLog, IsPageCount, IsWithin, Log, lsn_of, page_count, page_count_at}
use Rattle.log_records.specs.PageCount.{given_count}
use Rattle.log_records.specs.Record.{change_of, own_lsn}
use Rattle.log_records.specs.Log.{with_next}
use Rattle.log_records.proofs.Public.{change_within}
use Rattle.log_records.proofs.Public.{page_count-same}
use Rattle.log_records.proofs.Public.{count_behind-nil, page_count_at-all}
use Rattle.log_records.proofs.Public.{page_count_at-append}
use Rattle.log_records.proofs.Public.{image_from-append, number-image, number-with_record}
use Rattle.page_store.specs.Store.{StoresOrKeeps}
use Rattle.log_records.specs.Coverage.{AreStored, IsPast}
use Rattle.log_records.proofs.Public.{past_is_older, past_now, stored_begun, stored_ended, stored_failed, stored_later}
use Rattle.buffer_pool.specs.Frames.{IsResident, is_resident}
use Rattle.buffer_pool.specs.Pool.{AreHeld, IsPoolOf, IsStateOf, PageState, PoolView, changed, is_clean_in, new_pool}
use Rattle.buffer_pool.specs.Pool.{state_at, state_in, unwritten, whole_pool, with_state}
use Rattle.buffer_pool.specs.Pool.{write_begun, write_ended, writing_of, written_of}
use Rattle.buffer_pool.proofs.States.{state_begun, state_changed, state_ended, state_new, state_same}

-- what holds of a state that is replaced, and of the others, holds of all
pub states_set : (P : ℕ → PageState → Type 0) (states : List PageState) (n : ℕ) (s : PageState) → P n s
    → ((p : ℕ) (d : PageState) → p < length states → p ≢ n → P p (get_or states p d)) → n < length states
    → (p : ℕ) (d : PageState) → p < length (set states n s) → P p (get_or (set states n s) p d)
states_set P states n s here others there p d lt =
    let below : p < length states = omega (arith, length-set states n s) in
    elim (cases_eq p n) [
      | inl same ↦
          let at : get_or (set states n s) p d ≡ s =
          ap (λ (k : ℕ). get_or (set states n s) k d) same ∙ get_or-set_same states n s d there in
          rw at (subst (λ (k : ℕ). P k s) (sym same) here)
      | inr other ↦ rw (get_or-set_other states n p s d other) (others p d below other)
    ]

-- a column that a new state leaves
pub column_same : {X : Type 0} (part : PageState → X) (states : List PageState) (n : ℕ) (s : PageState)
    → n < length states → part s ≡ part (get_or states n unwritten)
    → map part (set states n s) ≡ map part states
column_same part states n s there same =
    map-set part states n s
    ∙ ap (set (map part states) n) (same ∙ sym (get_or-map part states n unwritten (part s) there))
    ∙ set-get_or (map part states) n (part s)

pub at_column : (states : List PageState) (n : ℕ) → n < length states
    → get_or (writing_of states) n None ≡ (get_or states n unwritten).writing
at_column states n there = get_or-map (λ (s : PageState). s.writing) states n unwritten None there

-- ---- the pages as they are now

pub images_later : (rs : List Record) (next : Record) (pages : List Page)
    → All (λ page. page ≡ image rs page.number) pages
    → All (λ page. page ≡ image (rs ++ next ∷ []) page.number) (map (λ page. with_record page next) pages)
images_later rs next pages now =
    All-map (λ page. page ≡ image (rs ++ next ∷ []) page.number) (λ page. with_record page next) pages
    (All-weaker (λ page. page ≡ image rs page.number)
    (λ page. with_record page next ≡ image (rs ++ next ∷ []) (with_record page next).number)
    (λ page is.
    ap (λ (q : Page). with_record q next) is
    ∙ sym (image_from-append (formatted page.number) rs (next ∷ []))
    ∙ ap (image (rs ++ next ∷ [])) (sym (number-with_record page next)))
    pages now)

-- the record stands behind the log
pub own_is : (log : Log) (next : Record) → IsLog (with_next log (next ∷ [])) → own_lsn next ≡ lsn_of (length log.records)
own_is log next valid =
    let rs = log.records in
    let there : length rs < length (rs ++ next ∷ []) = omega (arith, length_push rs next) in
    ap own_lsn (sym (get_or_push rs next next (length rs) refl)) ∙ (valid.records (length rs) next there).lsn

-- and the pool has the page that it changes
pub page_is_there : {S : Type 0} (stored_in : S → List Page) (log : Log) (next : Record) (pool : PoolView S)
    (c : PageChange) → change_of next ≡ Some c → IsLog (with_next log (next ∷ [])) → IsPoolOf stored_in log pool
    → c.page < length pool.states
page_is_there stored_in log next pool c some valid is =
    let rs = log.records in
    let there : length rs < length (rs ++ next ∷ []) = omega (arith, length_push rs next) in
    let count : page_count_at (with_next log (next ∷ [])) (length rs) ≡ page_count log =
    page_count_at-append log (next ∷ []) (length rs) (omega arith) ∙ page_count_at-all log (length rs) (omega arith) in
    let within : IsWithin (page_count log) next =
    subst (λ (n : ℕ). IsWithin n next) count
    (subst (IsWithin (page_count_at (with_next log (next ∷ [])) (length rs)))
    (get_or_push rs next next (length rs) refl)
    (valid.records (length rs) next there).within) in
    let below : c.page < page_count log =
    subst (λ (o : Option PageChange). IfSome o (λ x. x.page < page_count log)) some
    (change_within (page_count log) next within) in
    omega (arith, is.pages)

-- a page is resident just where it was
pub resident_later : (pages : List Page) (next : Record) (n : ℕ)
    → is_resident (map (λ page. with_record page next) pages) n ≡ is_resident pages n
resident_later [] next n = refl
resident_later (page ∷ pages) next n =
    ap (λ (k : ℕ). (k == n) || is_resident (map (λ page. with_record page next) pages) n)
    (number-with_record page next)
    ∙ ap (λ (b : Bool). (page.number == n) || b) (resident_later pages next n)

-- what a pool is after a record more that gives no page count, if each state is
later : {S : Type 0} (stored_in : S → List Page) (log : Log) (next : Record) (pool : PoolView S)
    (states : List PageState) → given_count next ≡ None
    → IsLog (with_next log (next ∷ [])) → IsPoolOf stored_in log pool → length states ≡ length pool.states
    → written_of states ≡ written_of pool.states → writing_of states ≡ writing_of pool.states
    → ((p : ℕ) (d : PageState) → p < length states → IsStateOf (with_next log (next ∷ [])) p (get_or states p d))
    → AreHeld pool.resident states
    → IsPoolOf stored_in (with_next log (next ∷ []))
    (record pool { resident = map (λ page. with_record page next) pool.resident; states = states })
later stored_in log next pool states none valid is count written writing each held = record {
  valid = valid;
  pages = page_count-same log next none ∙ is.pages ∙ sym count;
  few = omega (arith, is.few, length-map pool.resident (λ (page : Page). with_record page next));
  within = All-map (λ page. page.number < length states) (λ page. with_record page next) pool.resident
      (All-weaker (λ page. page.number < length pool.states)
      (λ page. (with_record page next).number < length states)
      (λ page lt. omega (arith, number-with_record page next, count)) pool.resident is.within);
  resident = images_later log.records next pool.resident is.resident;
  held = λ p lt dirty. resident_later pool.resident next p ∙ held p lt dirty;
  states = each;
  stored = rw (written, writing)
      (stored_later log.records (next ∷ []) (stored_in pool.store) (written_of pool.states)
      (writing_of pool.states) is.stored);
}

-- a record that changes no page
pub pool_same : {S : Type 0} (stored_in : S → List Page) (log : Log) (next : Record) (pool : PoolView S)
    → given_count next ≡ None → change_of next ≡ None → IsLog (with_next log (next ∷ []))
    → IsPoolOf stored_in log pool
    → IsPoolOf stored_in (with_next log (next ∷ []))
    (record pool { resident = map (λ page. with_record page next) pool.resident })
pool_same stored_in log next pool given none valid is =
    later stored_in log next pool pool.states given valid is refl refl refl (λ p d lt.
    state_same log next p (get_or pool.states p d) is.valid (own_is log next valid)
    (ap (λ (o : Option PageChange). option_map_or (λ c. c.page == p) o false) none)
    (is.states p d lt))
    is.held

-- one that changes a page
pub pool_changed : {S : Type 0} (stored_in : S → List Page) (log : Log) (next : Record) (pool : PoolView S)
    (c : PageChange) → given_count next ≡ None → change_of next ≡ Some c → IsResident pool.resident c.page
    → IsLog (with_next log (next ∷ [])) → IsPoolOf stored_in log pool
    → IsPoolOf stored_in (with_next log (next ∷ [])) (record pool {
      resident = map (λ page. with_record page next) pool.resident;
      states = set pool.states c.page (changed (state_in pool.states c.page) (own_lsn next));
    })
pool_changed stored_in log next pool c given some here valid is =
    let there = page_is_there stored_in log next pool c some valid is in
    let states = pool.states in
    let n = c.page in
    let old = state_in states n in
    let new : PageState = changed old (own_lsn next) in
    let own = own_is log next valid in
    later stored_in log next pool (set states n new) given valid is (length-set states n new)
    (column_same (λ (s : PageState). s.written) states n new there refl)
    (column_same (λ (s : PageState). s.writing) states n new there refl)
    (states_set (IsStateOf (with_next log (next ∷ []))) states n new
    (state_changed log next n old is.valid own
    (ap (λ (o : Option PageChange). option_map_or (λ x. x.page == n) o false) some ∙ eq-eqb n n refl)
    (is.states n unwritten there))
    (λ p d lt other.
    state_same log next p (get_or states p d) is.valid own
    (ap (λ (o : Option PageChange). option_map_or (λ x. x.page == p) o false) some
    ∙ ne_eqb n p (λ same. other (sym same)))
    (is.states p d lt)) there)
    (λ p lt dirty. elim (cases_eq p n) [
      | inl same ↦ subst (IsResident pool.resident) (sym same) here
      | inr other ↦ is.held p (omega (arith, length-set states n new))
          (ap (λ (s : PageState). is_none s.rec_lsn) (sym (get_or-set_other states n p new unwritten other)) ∙ dirty)
    ])

-- a record that changes no page leaves them
pub none_changes : (r : Record) (pages : List Page) → change_of r ≡ None
    → map (λ page. with_record page r) pages ≡ pages
none_changes r [] none = refl
none_changes r (page ∷ pages) none =
    ap (λ (q : Page). q ∷ map (λ page. with_record page r) pages)
    (ap (λ (o : Option PageChange). option_map_or (with_change page (own_lsn r)) o page) none)
    ∙ ap (λ (qs : List Page). page ∷ qs) (none_changes r pages none)

pub changed_at : (before after : List PageState) (n lsn own : ℕ)
    → after ≡ set before n (changed (state_in before n) lsn)
    → lsn ≡ own → after ≡ set before n (changed (state_in before n) own)
changed_at before after n lsn own e same = e ∙ ap (λ (k : ℕ). set before n (changed (state_in before n) k)) same

-- the columns that a change leaves
pub written_changed : (before after : List PageState) (n lsn : ℕ)
    → after ≡ set before n (changed (state_in before n) lsn)
    → n < length before → written_of after ≡ written_of before
written_changed before after n lsn e there =
    ap written_of e ∙ column_same (λ (s : PageState). s.written) before n (changed (state_in before n) lsn) there refl

pub writing_changed : (before after : List PageState) (n lsn : ℕ)
    → after ≡ set before n (changed (state_in before n) lsn)
    → n < length before → writing_of after ≡ writing_of before
writing_changed before after n lsn e there =
    ap writing_of e ∙ column_same (λ (s : PageState). s.writing) before n (changed (state_in before n) lsn) there refl

-- the pages keep their numbers
pub numbers_later : (pages : List Page) (next : Record)
    → map (λ page. page.number) (map (λ page. with_record page next) pages) ≡ map (λ page. page.number) pages
numbers_later [] next = refl
numbers_later (page ∷ pages) next = rw (number-with_record page next, numbers_later pages next) refl

-- ---- the store alone is another, with the same pages

pub pool_kept : {S : Type 0} (stored_in : S → List Page) (log : Log) (pool : PoolView S) (store : S)
    → stored_in store ≡ stored_in pool.store → IsPoolOf stored_in log pool
    → IsPoolOf stored_in log (record pool { store = store })
pool_kept stored_in log pool store same is = record {
  valid = is.valid;
  pages = is.pages;
  few = is.few;
  within = is.within;
  resident = is.resident;
  held = is.held;
  states = is.states;
  stored =
      subst (λ (pages : List Page). AreStored log.records pages (written_of pool.states) (writing_of pool.states))
      (sym same) is.stored;
}

-- ---- one state is another

none_some : {X : Type 0} (x : X) → None ≡ Some x → ⊥
none_some x e = cc

pub within_set : (pages : List Page) (states : List PageState) (n : ℕ) (s : PageState)
    → All (λ page. page.number < length states) pages → All (λ page. page.number < length (set states n s)) pages
within_set pages states n s within =
    All-weaker (λ page. page.number < length states) (λ page. page.number < length (set states n s))
    (λ page lt. omega (arith, length-set states n s)) pages within

-- a page that is dirty then was dirty before
pub held_set : (pages : List Page) (states : List PageState) (n : ℕ) (s : PageState) → n < length states
    → (is_none s.rec_lsn ≡ false → is_clean_in states n ≡ false)
    → AreHeld pages states → AreHeld pages (set states n s)
held_set pages states n s there was held = λ p lt dirty.
    let below : p < length states = omega (arith, length-set states n s) in
    elim (cases_eq p n) [
      | inl same ↦
          let at : get_or (set states n s) p unwritten ≡ s =
          ap (λ (k : ℕ). get_or (set states n s) k unwritten) same ∙ get_or-set_same states n s unwritten there in
          subst (IsResident pages) (sym same)
          (held n there (was (ap (λ (x : PageState). is_none x.rec_lsn) (sym at) ∙ dirty)))
      | inr other ↦ held p below
          (ap (λ (x : PageState). is_none x.rec_lsn) (sym (get_or-set_other states n p s unwritten other)) ∙ dirty)
    ]

-- ---- a write begins

pub pool_begun : {S : Type 0} (stored_in : S → List Page) (log : Log) (pool : PoolView S) (q : Page)
    → q.number < length pool.states → q ≡ image log.records q.number
    → length pool.states ≤ length (stored_in pool.store) → IsSome (state_at pool q.number).rec_lsn
    → IsPoolOf stored_in log pool
    → IsPoolOf stored_in log (with_state pool q.number (write_begun (state_at pool q.number) q))
pool_begun stored_in log pool q there now count changed is =
    let n = q.number in
    let states = pool.states in
    let old = state_at pool n in
    let new : PageState = write_begun old q in
    let past : IsPast log.records n q = subst (IsPast log.records n) (sym now) (past_now log.records n) in
    let long : n < length (writing_of states) = omega (arith, length-map states (λ (s : PageState). s.writing)) in
    let stored : n < length (stored_in pool.store) = omega arith in
    let begun = stored_begun log.records (stored_in pool.store) (written_of states) (writing_of states) n q is.stored
    long (λ d. record {
      past = past;
      newer = subst (λ (x : Page). (get_or (stored_in pool.store) n d).lsn ≤ x.lsn) (sym now)
          (past_is_older log n (get_or (stored_in pool.store) n d) is.valid (is.stored.pages n d stored).past);
    }) in
    record {
      valid = is.valid;
      pages = is.pages ∙ sym (length-set states n new);
      few = is.few;
      within = within_set pool.resident states n new is.within;
      resident = is.resident;
      held = held_set pool.resident states n new there (λ dirty. dirty) is.held;
      states = states_set (IsStateOf log) states n new
          (state_begun log n old q is.valid now changed (is.states n unwritten there))
          (λ p d lt other. is.states p d lt) there;
      stored = rw (
        column_same (λ (s : PageState). s.written) states n new there refl,
        map-set
            (λ (s : PageState). s.writing) states n new,
      ) begun;
    }

-- ---- a write ends

pub pool_ended : {S : Type 0} (stored_in : S → List Page) (log : Log) (pool : PoolView S) (store : S) (n : ℕ) (q : Page)
    → n < length pool.states → (state_at pool n).writing ≡ Some q
    → length pool.states ≤ length (stored_in pool.store) → stored_in store ≡ set (stored_in pool.store) n q
    → IsPoolOf stored_in log pool
    → IsPoolOf stored_in log
    (record (with_state pool n (write_ended (state_at pool n) q.lsn)) { store = store })
pool_ended stored_in log pool store n q there here count stores is =
    let states = pool.states in
    let old = state_at pool n in
    let new : PageState = write_ended old q.lsn in
    let long : n < length (writing_of states) = omega (arith, length-map states (λ (s : PageState). s.writing)) in
    let known : n < length (written_of states) = omega (arith, length-map states (λ (s : PageState). s.written)) in
    let stored : n < length (stored_in pool.store) = omega arith in
    let ended = stored_ended log.records (stored_in pool.store) (written_of states) (writing_of states) n q is.stored
    stored known long (at_column states n there ∙ here) in
    record {
      valid = is.valid;
      pages = is.pages ∙ sym (length-set states n new);
      few = is.few;
      within = within_set pool.resident states n new is.within;
      resident = is.resident;
      held = held_set pool.resident states n new there (λ dirty. not_idle old.rec_lsn refl) is.held;
      states = states_set (IsStateOf log) states n new (state_ended log n old q here (is.states n unwritten there))
          (λ p d lt other. is.states p d lt) there;
      stored = rw (
        stores,
        map-set (λ (s : PageState). s.written) states n new,
        map-set
            (λ (s : PageState). s.writing) states n new,
      ) ended;
    }
  where
    not_idle : (o : Option ℕ) → (state_at pool n).rec_lsn ≡ o → is_none o ≡ false
    not_idle None clean = absurd (none_some q (sym ((is.states n unwritten there).idle clean) ∙ here))
    not_idle (Some x) dirty = refl

-- ---- a write fails

pub pool_failed : {S : Type 0} (stored_in : S → List Page) (log : Log) (pool : PoolView S) (store : S) (n : ℕ)
    (q : Page) → n < length pool.states → (state_at pool n).writing ≡ Some q
    → length pool.states ≤ length (stored_in pool.store)
    → StoresOrKeeps (stored_in pool.store) n q (stored_in store) → IsPoolOf stored_in log pool
    → IsPoolOf stored_in log (record pool { store = store })
pool_failed stored_in log pool store n q there here count either is = elim either [
  | inl stores ↦
      let states = pool.states in
      let stored : n < length (stored_in pool.store) = omega arith in
      let failed = stored_failed log.records (stored_in pool.store) (written_of states) (writing_of states) n q
      is.stored stored (at_column states n there ∙ here) in
      record {
        valid = is.valid;
        pages = is.pages;
        few = is.few;
        within = is.within;
        resident = is.resident;
        held = is.held;
        states = is.states;
        stored = rw stores failed;
      }
  | inr keeps ↦ pool_kept stored_in log pool store keeps is
]

-- ---- a new pool

stored_new : (n : ℕ) → AreStored [] (formatted_pages n) (replicate n 0) (replicate n None)
stored_new n = record {
  pages = λ p d lt.
      let below : p < n = omega (arith, length-map-range_with_len formatted 0 n) in
      let here : get_or (formatted_pages n) p d ≡ formatted p =
      get_or-map-range_with_len formatted 0 n p p d below (omega arith) in
      let zeros : List ℕ = replicate n 0 in
      let none : get_or zeros p 0 ≡ 0 = get_or-replicate n p 0 0 below in
      rw (here, none)
      (record { past = record { count = 0; within = omega arith; made = refl }; reached = omega arith });
  images = λ p d lt.
      let below : p < n = omega (arith, length-map-range_with_len formatted 0 n) in
      let images : List (Option Page) = replicate n None in
      let none : get_or images p None ≡ None = get_or-replicate n p None None below in
      rw none tt;
}

map-replicate : {X Y : Type 0} (f : X → Y) (n : ℕ) (x : X) → map f (replicate n x) ≡ replicate n (f x)
map-replicate {Y = Y} f zero x = refl
map-replicate {Y = Y} f (suc n) x = ap (λ (ys : List Y). f x ∷ ys) (map-replicate f n x)

formatted_now : (n : ℕ) → All (λ page. page ≡ image [] page.number) (formatted_pages n)
formatted_now n = λ p d lt.
    let below : p < n = omega (arith, length-map-range_with_len formatted 0 n) in
    let here : get_or (formatted_pages n) p d ≡ formatted p =
    get_or-map-range_with_len formatted 0 n p p d below (omega arith) in
    rw here (ap formatted (sym (number-image [] p)))

-- a pool of nothing but unwritten pages
pub pool_of_none : {S : Type 0} (stored_in : S → List Page) (store : S) (n frames : ℕ) (resident : List Page)
    → IsPageCount n → stored_in store ≡ formatted_pages n → length resident ≤ frames
    → All (λ page. page.number < n) resident → All (λ page. page ≡ image [] page.number) resident
    → IsPoolOf stored_in (record { pages = n; records = [] })
    (record (new_pool store n frames) { resident = resident })
pool_of_none stored_in store n frames resident count holds few within now = record {
  valid = record {
    pages = count;
    count = omega arith;
    records = λ i d lt. absurd (omega arith);
    grows = λ i d lt. absurd (omega arith);
  };
  pages = count_behind-nil n ∙ sym (length-replicate n unwritten);
  few = few;
  within = subst (λ (k : ℕ). All (λ page. page.number < k) resident) (sym (length-replicate n unwritten)) within;
  resident = now;
  held = λ p lt dirty.
      let below : p < n = omega (arith, length-replicate n unwritten) in
      absurd (true≢false (sym (ap (λ (s : PageState). is_none s.rec_lsn)
      (get_or-replicate n p unwritten unwritten below)) ∙ dirty));
  states = λ p d lt.
      let below : p < n = omega (arith, length-replicate n unwritten) in
      rw (get_or-replicate n p unwritten d below) (state_new n p);
  stored = rw (
    holds,
    map-replicate (λ (s : PageState). s.written) n unwritten,
    map-replicate
        (λ (s : PageState). s.writing) n unwritten,
  ) (stored_new n);
}

pub pool_new : {S : Type 0} (stored_in : S → List Page) (store : S) (n frames : ℕ) → IsPageCount n
    → stored_in store ≡ formatted_pages n
    → IsPoolOf stored_in (record { pages = n; records = [] }) (new_pool store n frames)
pool_new stored_in store n frames count holds =
    pool_of_none stored_in store n frames [] count holds (omega arith) (All-nil (λ page. page.number < n))
    (All-nil (λ page. page ≡ image [] page.number))

pub formatted_within : (n : ℕ) → All (λ page. page.number < n) (formatted_pages n)
unfolding formatted
formatted_within n = λ p d lt.
    let below : p < n = omega (arith, length-map-range_with_len formatted 0 n) in
    let here : get_or (formatted_pages n) p d ≡ formatted p =
    get_or-map-range_with_len formatted 0 n p p d below (omega arith) in
    rw here below

-- a formatted page is not among those before it
pub next_absent : (n : ℕ) → is_resident (formatted_pages n) (formatted n).number ≡ false
unfolding formatted
next_absent n =
    list_any_none (λ (page : Page). page.number == n) (formatted_pages n) (λ p d lt.
    let low : (get_or (formatted_pages n) p d).number < n = formatted_within n p d lt in
    ne_eqb (get_or (formatted_pages n) p d).number n (λ same. omega (arith, low, same)))

-- every page is among as many as there are
pub formatted_all : (n p : ℕ) → p < n → IsResident (formatted_pages n) p
unfolding formatted
formatted_all n p lt =
    list_any_at (λ (page : Page). page.number == p) (formatted_pages n) p (formatted p)
    (omega (arith, length-map-range_with_len formatted 0 n))
    (ap (λ (page : Page). page.number == p) (get_or-map-range_with_len formatted 0 n p p (formatted p) lt (omega arith))
    ∙ eq-eqb p p refl)

pub pool_whole : {S : Type 0} (stored_in : S → List Page) (store : S) (n : ℕ) → IsPageCount n
    → stored_in store ≡ formatted_pages n
    → IsPoolOf stored_in (record { pages = n; records = [] }) (whole_pool store n)
pool_whole stored_in store n count holds =
    pool_of_none stored_in store n n (formatted_pages n) count holds
    (omega (arith, length-map-range_with_len formatted 0 n)) (formatted_within n) (formatted_now n)

-- ---- what is stored

-- a stored page is not older than its last write
pub reached : {S : Type 0} (stored_in : S → List Page) (log : Log) (pool : PoolView S) (n : ℕ) (d : Page)
    → IsPoolOf stored_in log pool → n < length pool.states → n < length (stored_in pool.store)
    → (state_at pool n).written ≤ (get_or (stored_in pool.store) n d).lsn
reached stored_in log pool n d is there stored =
    subst (λ (w : ℕ). w ≤ (get_or (stored_in pool.store) n d).lsn)
    (get_or-map (λ (s : PageState). s.written) pool.states n unwritten 0 there) (is.stored.pages n d stored).reached
