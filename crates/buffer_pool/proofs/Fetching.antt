-- A page that is fetched, and the page that is given up for it.
use Rattle.std.proofs.Common.{◌≡◌, ℕ, ◌<◌, ◌≤◌, ◌+◌, Bool, true, false, cond, ◌||◌, ◌&&◌, not, List, [], ◌∷◌, ◌++◌, length}
use Rattle.std.proofs.Common.{get_or, suc, refl, sym, ap, ◌∙◌, arith, true≢false}
use Rattle.std.proofs.lemmas.Option.{get_or_from_slice_get}
use Rattle.std.specs.Prelude.{slice_get, ◌==◌, Option, Some, None, is_none, nat_le, position}
use Rattle.std.specs.List.{All, list_any}
use Rattle.std.proofs.lemmas.Bool.{eq-eqb, eqb-true, le-leb, lt-leb}
use Rattle.std.proofs.Math.Bool.{or-true}
use Rattle.std.proofs.lemmas.List.{get_or-map, length_push}
use Rattle.std.proofs.lemmas.List.Elements.{All-cons, All-head, All-push, All-tail}
use Rattle.std.proofs.lemmas.List.Folds.{list_any-append}
use Rattle.page_core.specs.declared.page.Page.{Page}
use Rattle.log_records.specs.Coverage.{rec_lsn}
use Rattle.log_records.specs.Image.{image}
use Rattle.log_records.specs.Log.{Log}
use Rattle.log_records.proofs.Public.{clean_is_image}
use Rattle.buffer_pool.specs.Frames.{IsResident, fetched, given_up, is_full, is_resident, with_room}
use Rattle.buffer_pool.specs.Pool.{AreHeld, IsPoolOf, PageState, PoolView, is_clean, is_clean_in, state_in, unwritten}
use Rattle.buffer_pool.specs.Pool.{written_of}
use Rattle.buffer_pool.proofs.Pools.{pool_kept, reached}
use Rattle.buffer_pool.proofs.Holes.{none_found, some_found}

-- ---- two tests that agree on the pages

abbrev pub Agree : (ℕ → Bool) → (ℕ → Bool) → List Page → Type 0
Agree p q pages = All (λ page. p page.number ≡ q page.number) pages

pub given_up_same : (p q : ℕ → Bool) (pages : List Page) → Agree p q pages → given_up p pages ≡ given_up q pages
given_up_same p q [] same = refl
given_up_same p q (page ∷ pages) same =
    ap (λ (b : Bool). cond b pages (page ∷ given_up p pages)) (All-head (λ x. p x.number ≡ q x.number) page pages same)
    ∙ ap (λ (rest : List Page). cond (q page.number) pages (page ∷ rest))
    (given_up_same p q pages (All-tail (λ x. p x.number ≡ q x.number) page pages same))

pub any_same : (p q : ℕ → Bool) (pages : List Page) → Agree p q pages
    → list_any (λ page. p page.number) pages ≡ list_any (λ page. q page.number) pages
any_same p q [] same = refl
any_same p q (page ∷ pages) same =
    ap (λ (b : Bool). b || list_any (λ page. p page.number) pages)
    (All-head (λ x. p x.number ≡ q x.number) page pages same)
    ∙ ap (λ (b : Bool). q page.number || b)
    (any_same p q pages (All-tail (λ x. p x.number ≡ q x.number) page pages same))

-- the state of a page says whether the dirty page table has it
pub clean_alike : {S : Type 0} (stored_in : S → List Page) (log : Log) (pool : PoolView S) (p : ℕ)
    → IsPoolOf stored_in log pool → p < length pool.states
    → is_clean_in pool.states p ≡ is_clean log.records (written_of pool.states) p
clean_alike stored_in log pool p is there =
    ap (λ (o : Option ℕ). is_none o) ((is.states p unwritten there).dirty
    ∙ ap (rec_lsn log.records p) (sym (get_or-map (λ (s : PageState). s.written) pool.states p unwritten 0 there)))

pub agree : {S : Type 0} (stored_in : S → List Page) (log : Log) (pool : PoolView S) → IsPoolOf stored_in log pool
    → Agree (is_clean_in pool.states) (is_clean log.records (written_of pool.states)) pool.resident
agree stored_in log pool is = λ k d lt.
    clean_alike stored_in log pool (get_or pool.resident k d).number is (is.within k d lt)

-- ---- the pages without the one that is given up

pub all_less : (P : Page → Type 0) (clean : ℕ → Bool) (pages : List Page) → All P pages → All P (given_up clean pages)
all_less P clean [] all = all
all_less P clean (page ∷ pages) all =
    here (clean page.number) (All-tail P page pages all) (all_less P clean pages (All-tail P page pages all))
  where
    here : (b : Bool) → All P pages → All P (given_up clean pages) → All P (cond b pages (page ∷ given_up clean pages))
    here true rest less = rest
    here false rest less = All-cons P page (given_up clean pages) (All-head P page pages all) less

-- where one is clean there is one less
pub length_less : (clean : ℕ → Bool) (pages : List Page) → list_any (λ page. clean page.number) pages ≡ true
    → length (given_up clean pages) + 1 ≡ length pages
length_less clean [] any = absurd (cc)
length_less clean (page ∷ pages) any = here (clean page.number) any (length_less clean pages)
  where
    here : (b : Bool) → (b || list_any (λ page. clean page.number) pages) ≡ true
        → (list_any (λ page. clean page.number) pages ≡ true → length (given_up clean pages) + 1 ≡ length pages)
        → length (cond b pages (page ∷ given_up clean pages)) + 1 ≡ suc (length pages)
    here true any rest = omega arith
    here false any rest = let less : length (given_up clean pages) + 1 ≡ length pages = rest any in omega arith

-- a page that is not clean stays
pub dirty_stays : (clean : ℕ → Bool) (pages : List Page) (n : ℕ) → clean n ≡ false → IsResident pages n
    → IsResident (given_up clean pages) n
dirty_stays clean [] n dirty there = there
dirty_stays clean (page ∷ pages) n dirty there =
    here (page.number == n) refl (clean page.number) refl there (dirty_stays clean pages n dirty)
  where
    here : (a : Bool) → (page.number == n) ≡ a → (b : Bool) → clean page.number ≡ b
        → (a || is_resident pages n) ≡ true
        → (IsResident pages n → IsResident (given_up clean pages) n)
        → IsResident (cond b pages (page ∷ given_up clean pages)) n
    here true same true is_clean there rest =
        absurd (true≢false (sym is_clean ∙ ap clean (eqb-true page.number n same) ∙ dirty))
    here true same false not_clean there rest =
        ap (λ (x : Bool). x || is_resident (given_up clean pages) n) same
    here false other true is_clean there rest = there
    here false other false not_clean there rest =
        ap (λ (x : Bool). x || is_resident (given_up clean pages) n) other ∙ rest there

-- ---- a page that comes in

pub read_is : (pages : List Page) (n : ℕ) (page d : Page) → slice_get pages n ≡ Some page → page ≡ get_or pages n d
read_is pages n page d found = sym (get_or_from_slice_get pages n page d found)

pub resident_more : (pages : List Page) (page : Page) (n : ℕ) → IsResident pages n → IsResident (pages ++ page ∷ []) n
resident_more pages page n there =
    list_any-append (λ (x : Page). x.number == n) pages (page ∷ [])
    ∙ ap (λ (b : Bool). b || is_resident (page ∷ []) n) there

-- what the pool is with a page more, over pages that are still held
pub pool_more : {S : Type 0} (stored_in : S → List Page) (log : Log) (pool : PoolView S) (store : S) (room n : ℕ)
    (pages : List Page) (page : Page)
    → IsPoolOf stored_in log pool → stored_in store ≡ stored_in pool.store
    → length pool.states ≤ length (stored_in pool.store) → n < length pool.states
    → ((d : Page) → page ≡ get_or (stored_in pool.store) n d) → page.number ≡ n
    → is_resident pool.resident n ≡ false
    → length pages < pool.frames → All (λ page. page.number < length pool.states) pages
    → All (λ page. page ≡ image log.records page.number) pages → AreHeld pages pool.states
    → IsPoolOf stored_in log (record pool { store = store; room = room; resident = pages ++ page ∷ [] })
pool_more stored_in log pool store room n pages page is same count there read number absent few within now held =
    let kept = pool_kept stored_in log pool store same is in
    let clean : is_clean_in pool.states n ≡ true = by_test (is_clean_in pool.states n) refl in
    let none : (state_in pool.states n).rec_lsn ≡ None = none_by (state_in pool.states n).rec_lsn clean in
    let at : n < length (stored_in pool.store) = omega (arith, count) in
    let stored = clean_is_image log n (get_or (stored_in pool.store) n page) (state_in pool.states n).written is.valid
    (is.stored.pages n page at).past (reached stored_in log pool n page is there at)
    (sym (is.states n unwritten there).dirty ∙ none) in
    record {
      valid = is.valid;
      pages = is.pages;
      few = omega (arith, length_push pages page);
      within = All-push (λ x. x.number < length pool.states) pages page within (omega (arith, number, there));
      resident = All-push (λ x. x ≡ image log.records x.number) pages page now
          (read page ∙ stored ∙ ap (image log.records) (sym number));
      held = λ p lt dirty. resident_more pages page p (held p lt dirty);
      states = is.states;
      stored = kept.stored;
    }
  where
    by_test : (b : Bool) → is_clean_in pool.states n ≡ b → is_clean_in pool.states n ≡ true
    by_test true e = e
    by_test false e = absurd (true≢false (sym (is.held n there e) ∙ absent))

    none_by : (o : Option ℕ) → is_none o ≡ true → o ≡ None
    none_by None e = refl
    none_by (Some x) e = absurd (cc)

-- ---- whether a frame can be had

pub not_full : (frames : ℕ) (clean : ℕ → Bool) (pages : List Page) → length pages < frames
    → is_full frames clean pages ≡ false
not_full frames clean pages lt =
    ap (λ (b : Bool). b && not (list_any (λ page. clean page.number) pages)) (lt-leb frames (length pages) lt)

pub full_if : (frames : ℕ) (clean : ℕ → Bool) (pages : List Page) → frames ≤ length pages
    → is_full frames clean pages ≡ not (list_any (λ page. clean page.number) pages)
full_if frames clean pages le =
    ap (λ (b : Bool). b && not (list_any (λ page. clean page.number) pages)) (le-leb frames (length pages) le)

-- a search that finds none tells that none is clean
pub none_clean : (p : Page → Bool) (pages : List Page) → is_none (position p pages) ≡ not (list_any p pages)
none_clean p pages = by_place (position p pages) refl
  where
    by_place : (o : Option ℕ) → position p pages ≡ o → is_none o ≡ not (list_any p pages)
    by_place None e = ap not (sym (none_found p pages e))
    by_place (Some i) e = ap not (sym (some_found p pages i e))

-- ---- what is fetched

pub fetched_free : (frames : ℕ) (clean : ℕ → Bool) (pages : List Page) (page : Page) → length pages < frames
    → fetched frames clean pages page ≡ pages ++ page ∷ []
fetched_free frames clean pages page lt =
    ap (λ (b : Bool). cond b (given_up clean pages) pages ++ page ∷ []) (lt-leb frames (length pages) lt)

pub fetched_given_up : (frames : ℕ) (clean : ℕ → Bool) (pages : List Page) (page : Page) → frames ≤ length pages
    → fetched frames clean pages page ≡ given_up clean pages ++ page ∷ []
fetched_given_up frames clean pages page le =
    ap (λ (b : Bool). cond b (given_up clean pages) pages ++ page ∷ []) (le-leb frames (length pages) le)

-- the page that came in last is resident
pub resident_last : (pages : List Page) (page : Page) (n : ℕ) → page.number ≡ n → IsResident (pages ++ page ∷ []) n
resident_last pages page n same =
    list_any-append (λ (x : Page). x.number == n) pages (page ∷ [])
    ∙ ap (λ (b : Bool). is_resident pages n || (b || false)) (eq-eqb page.number n same)
    ∙ or-true (is_resident pages n)

-- ---- the pages with room for one

-- what holds of all pages holds of those that stay
pub all_stay : (P : Page → Type 0) (frames : ℕ) (clean : ℕ → Bool) (pages : List Page) → All P pages
    → All P (with_room frames clean pages)
all_stay P frames clean pages all = here (nat_le frames (length pages))
  where
    here : (b : Bool) → All P (cond b (given_up clean pages) pages)
    here true = all_less P clean pages all
    here false = all

-- a page that is not clean stays when another one comes in
pub dirty_kept : (frames : ℕ) (clean : ℕ → Bool) (pages : List Page) (page : Page) (n : ℕ) → clean n ≡ false
    → IsResident pages n → IsResident (fetched frames clean pages page) n
dirty_kept frames clean pages page n dirty there =
    resident_more (with_room frames clean pages) page n (here (nat_le frames (length pages)))
  where
    here : (b : Bool) → IsResident (cond b (given_up clean pages) pages) n
    here true = dirty_stays clean pages n dirty there
    here false = there

-- ---- memory for a page more

pub room_kept : {S : Type 0} (stored_in : S → List Page) (log : Log) (pool : PoolView S) (room : ℕ)
    → IsPoolOf stored_in log pool → IsPoolOf stored_in log (record pool { room = room })
room_kept stored_in log pool room is = record {
  valid = is.valid;
  pages = is.pages;
  few = is.few;
  within = is.within;
  resident = is.resident;
  held = is.held;
  states = is.states;
  stored = is.stored;
}
