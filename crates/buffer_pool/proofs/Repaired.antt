-- A page that is stored as it is now, while no write of it is in progress.
use Rattle.std.proofs.Common.{◌≡◌, ℕ, ◌<◌, ◌≤◌, List, length, get_or, set}
use Rattle.std.proofs.Common.{refl, sym, ap, subst, ◌∙◌, arith, inl, inr}
use Rattle.std.specs.Prelude.{Option, Some, None, IfSome, IsNone}
use Rattle.std.specs.Option.{option_and_then}
use Rattle.std.proofs.lemmas.Bool.{cases_eq}
use Rattle.std.proofs.lemmas.List.{get_or-set_other, get_or-set_same, length-map, length-set, map-set}
use Rattle.page_core.specs.declared.page.Page.{Page}
use Rattle.page_core.specs.Volume.{AreNumbered}
use Rattle.log_records.specs.declared.record.Record.{Record}
use Rattle.log_records.specs.Coverage.{AreStored, IsPast, IsWriting, rec_lsn}
use Rattle.log_records.specs.Image.{image}
use Rattle.log_records.specs.Log.{IsLog, Log}
use Rattle.log_records.proofs.Public.{image_is_clean}
use Rattle.log_records.proofs.Public.{past_is_older, past_now}
use Rattle.page_store.specs.Store.{StoresOrKeeps}
use Rattle.buffer_pool.specs.Pool.{IsPoolOf, IsStateOf, IsWhole, PageState, PoolView, stored_as_now, state_at}
use Rattle.buffer_pool.specs.Pool.{with_state, write_ended, writing_of, written_of}
use Rattle.buffer_pool.proofs.Pools.{at_column, column_same, held_set, pool_kept, states_set, within_set}
use Rattle.buffer_pool.proofs.States.{image_below}

-- ---- the stored pages

-- the images that are being written are those of other pages
images_stay : (rs : List Record) (stored : List Page) (written : List ℕ) (writing : List (Option Page)) (n : ℕ)
    (image : Page) → AreStored rs stored written writing → get_or writing n None ≡ None → (p : ℕ) (d : Page)
    → p < length stored → IfSome (get_or writing p None) (IsWriting rs p (get_or (set stored n image) p d))
images_stay rs stored written writing n image are idle p d lt = elim (cases_eq p n) [
  | inl same ↦
      let none : get_or writing p None ≡ None = ap (λ (k : ℕ). get_or writing k None) same ∙ idle in
      rw none tt
  | inr other ↦ rw (get_or-set_other stored n p image d other) (are.images p d lt)
]

-- it is stored, and that was its last write
pub stored_repaired : (rs : List Record) (stored : List Page) (written : List ℕ) (writing : List (Option Page)) (n : ℕ)
    (image : Page) → AreStored rs stored written writing → n < length stored → n < length written
    → get_or writing n None ≡ None → IsPast rs n image
    → AreStored rs (set stored n image) (set written n image.lsn) writing
stored_repaired rs stored written writing n image are there known idle past = record {
  pages = λ p d lt.
      let below : p < length stored = omega (arith, length-set stored n image) in
      elim (cases_eq p n) [
        | inl same ↦
            let page : get_or (set stored n image) p d ≡ image =
            ap (λ (k : ℕ). get_or (set stored n image) k d) same ∙ get_or-set_same stored n image d there in
            let lsn : get_or (set written n image.lsn) p 0 ≡ image.lsn =
            ap (λ (k : ℕ). get_or (set written n image.lsn) k 0) same
            ∙ get_or-set_same written n image.lsn 0 known in
            rw (page, lsn) (record {
              past = subst (λ (k : ℕ). IsPast rs k image) (sym same) past;
              reached = omega arith;
            })
        | inr other ↦
            rw (get_or-set_other stored n p image d other, get_or-set_other written n p image.lsn 0 other)
            (are.pages p d below)
      ];
  images = λ p d lt.
      images_stay rs stored written writing n image are idle p d (omega (arith, length-set stored n image));
}

-- it may be stored, and its last write is the one before
pub stored_half : (rs : List Record) (stored : List Page) (written : List ℕ) (writing : List (Option Page)) (n : ℕ)
    (image : Page) → AreStored rs stored written writing → n < length stored
    → get_or writing n None ≡ None → IsPast rs n image → ((d : Page) → (get_or stored n d).lsn ≤ image.lsn)
    → AreStored rs (set stored n image) written writing
stored_half rs stored written writing n image are there idle past newer = record {
  pages = λ p d lt.
      let below : p < length stored = omega (arith, length-set stored n image) in
      elim (cases_eq p n) [
        | inl same ↦
            let page : get_or (set stored n image) p d ≡ image =
            ap (λ (k : ℕ). get_or (set stored n image) k d) same ∙ get_or-set_same stored n image d there in
            let reached : get_or written n 0 ≤ image.lsn =
            omega (arith, (are.pages n d there).reached, newer d) in
            rw page (record {
              past = subst (λ (k : ℕ). IsPast rs k image) (sym same) past;
              reached = subst (λ (k : ℕ). get_or written k 0 ≤ image.lsn) (sym same) reached;
            })
        | inr other ↦ rw (get_or-set_other stored n p image d other) (are.pages p d below)
      ];
  images = λ p d lt.
      images_stay rs stored written writing n image are idle p d (omega (arith, length-set stored n image));
}

-- each page is stored in its place still
numbered_set : (pages : List Page) (n : ℕ) (q : Page) → q.number ≡ n → AreNumbered pages → AreNumbered (set pages n q)
numbered_set pages n q named numbers = λ k d lt.
    let below : k < length pages = omega (arith, length-set pages n q) in
    elim (cases_eq k n) [
      | inl same ↦
          let page : get_or (set pages n q) k d ≡ q =
          ap (λ (i : ℕ). get_or (set pages n q) i d) same
          ∙ get_or-set_same pages n q d (subst (λ (i : ℕ). i < length pages) same below) in
          ap (λ (x : Page). x.number) page ∙ named ∙ sym same
      | inr other ↦ ap (λ (x : Page). x.number) (get_or-set_other pages n k q d other) ∙ numbers k d below
    ]

pub whole_set : (pages new : List Page) (states after : List PageState) (n : ℕ) (q : Page) (s : PageState)
    → q.number ≡ n → new ≡ set pages n q → after ≡ set states n s → IsWhole pages states → IsWhole new after
whole_set pages new states after n q s named stores are whole =
    let count : length after ≡ length states = ap length are ∙ length-set states n s in
    let stored : length new ≡ length pages = ap length stores ∙ length-set pages n q in
    record {
      few = omega (arith, whole.few, count);
      enough = omega (arith, whole.enough, stored, count);
      stored_numbers = subst AreNumbered (sym stores) (numbered_set pages n q named whole.stored_numbers);
    }

pub whole_half : (pages new : List Page) (states : List PageState) (n : ℕ) (q : Page)
    → q.number ≡ n → StoresOrKeeps pages n q new → IsWhole pages states → IsWhole new states
whole_half pages new states n q named (inl stores) whole = record {
  few = whole.few;
  enough = omega (arith, whole.enough, ap length stores, length-set pages n q);
  stored_numbers = subst AreNumbered (sym stores) (numbered_set pages n q named whole.stored_numbers);
}
whole_half pages new states n q named (inr keeps) whole =
    subst (λ (ps : List Page). IsWhole ps states) (sym keeps) whole

-- ---- its state

pub is_idle : (writing : Option Page) → IsNone writing → writing ≡ None
is_idle None none = refl
is_idle (Some q) none = cc

-- where no write of a page is in progress, no change since an image is noted
pub state_idle : (log : Log) (p : ℕ) (s : PageState) (lsn : ℕ) → IsStateOf log p s → s.writing ≡ None
    → write_ended s lsn ≡ stored_as_now lsn
state_idle log p s lsn is idle =
    let none : s.since ≡ None = is.since ∙ ap (option_and_then (λ x. rec_lsn log.records p x.lsn)) idle in
    ap (λ (o : Option ℕ). record { written = lsn; rec_lsn = o; writing = None; since = None }) none

pub state_repaired : (log : Log) (p : ℕ) → IsLog log → IsStateOf log p (stored_as_now (image log.records p).lsn)
state_repaired log p valid = record {
  written = image_below log p valid;
  image = tt;
  since = refl;
  dirty = sym (image_is_clean log p valid);
  idle = λ clean. refl;
}

-- ---- the pool

pub pool_repaired : {S : Type 0} (stored_in : S → List Page) (log : Log) (pool : PoolView S) (store : S) (n : ℕ)
    (q : Page) → n < length pool.states → (state_at pool n).writing ≡ None → q ≡ image log.records n
    → length pool.states ≤ length (stored_in pool.store) → stored_in store ≡ set (stored_in pool.store) n q
    → IsPoolOf stored_in log pool
    → IsPoolOf stored_in log (record (with_state pool n (stored_as_now q.lsn)) { store = store })
pool_repaired stored_in log pool store n q there idle now count stores is =
    let states = pool.states in
    let old = state_at pool n in
    let new : PageState = stored_as_now q.lsn in
    let past : IsPast log.records n q = subst (IsPast log.records n) (sym now) (past_now log.records n) in
    let known : n < length (written_of states) = omega (arith, length-map states (λ (s : PageState). s.written)) in
    let stored : n < length (stored_in pool.store) = omega arith in
    let done = stored_repaired log.records (stored_in pool.store) (written_of states) (writing_of states) n q is.stored
    stored known (at_column states n there ∙ idle) past in
    record {
      valid = is.valid;
      pages = is.pages ∙ sym (length-set states n new);
      few = is.few;
      within = within_set pool.resident states n new is.within;
      resident = is.resident;
      held = held_set pool.resident states n new there (λ dirty. (cc)) is.held;
      states = states_set (IsStateOf log) states n new
          (subst (λ (x : Page). IsStateOf log n (stored_as_now x.lsn)) (sym now) (state_repaired log n is.valid))
          (λ p d lt other. is.states p d lt) there;
      stored = rw (
        stores,
        map-set (λ (s : PageState). s.written) states n new,
        column_same (λ (s : PageState). s.writing) states n new there (sym idle),
      ) done;
    }

pub pool_half : {S : Type 0} (stored_in : S → List Page) (log : Log) (pool : PoolView S) (store : S) (n : ℕ)
    (q : Page) → n < length pool.states → (state_at pool n).writing ≡ None → q ≡ image log.records n
    → length pool.states ≤ length (stored_in pool.store)
    → StoresOrKeeps (stored_in pool.store) n q (stored_in store) → IsPoolOf stored_in log pool
    → IsPoolOf stored_in log (record pool { store = store })
pool_half stored_in log pool store n q there idle now count either is = elim either [
  | inl stores ↦
      let states = pool.states in
      let past : IsPast log.records n q = subst (IsPast log.records n) (sym now) (past_now log.records n) in
      let stored : n < length (stored_in pool.store) = omega arith in
      let half = stored_half log.records (stored_in pool.store) (written_of states) (writing_of states) n q is.stored
      stored (at_column states n there ∙ idle) past
      (λ d. subst (λ (x : Page). (get_or (stored_in pool.store) n d).lsn ≤ x.lsn) (sym now)
      (past_is_older log n (get_or (stored_in pool.store) n d) is.valid (is.stored.pages n d stored).past)) in
      record {
        valid = is.valid;
        pages = is.pages;
        few = is.few;
        within = is.within;
        resident = is.resident;
        held = is.held;
        states = is.states;
        stored = rw stores half;
      }
  | inr keeps ↦ pool_kept stored_in log pool store keeps is
]
