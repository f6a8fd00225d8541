-- What the pool says of the engine's state.
use Rattle.std.proofs.Common.{◌≡◌, ℕ, ◌<◌, ◌≤◌, Bool, true, false, List, [], ◌∷◌, zero, suc, length, replicate, set}
use Rattle.std.proofs.Common.{get_or, map, refl, sym, ap, ◌∙◌, arith, max, take}
use Rattle.std.specs.Prelude.{Option, Some, None, is_none, is_some}
use Rattle.std.proofs.lemmas.Bool.{lt-leb}
use Rattle.std.proofs.lemmas.List.{get_or-map, get_or-take, length-replicate, length-set, map-set, set-get_or, take_all}
use Rattle.std.proofs.lemmas.List.FromFn.{get_or-map-range_with_len, length-map-range_with_len}
use Rattle.std.proofs.lemmas.List.{get_or_append_left, get_or-append_right, length-append, length-take, same_lists}
use Rattle.std.proofs.lemmas.Bool.{cases_lt}
use Rattle.std.proofs.Common.{◌-◌, inl, inr}
use Rattle.std.specs.List.{range_with_len}
use Rattle.log_records.proofs.Public.{past_is_formatted}
use Rattle.log_records.specs.Log.{Log}
use Rattle.page_core.specs.Volume.{grown_to}
use Rattle.page_store.specs.Store.{IsGrown}
use Rattle.std.proofs.Math.Seq.{take-set-lt}
use Rattle.page_core.specs.declared.page.Page.{Page}
use Rattle.page_core.specs.Page.{formatted}
use Rattle.buffer_pool.specs.Pool.{IsPoolOf, PoolView, state_at, unwritten, new_pool, with_state, write_begun}
use Rattle.buffer_pool.specs.Pool.{write_ended}
use Rattle.buffer_pool.specs.Pool.{writing_of, written_of}
use Rattle.log_store.specs.WrittenLog.{WrittenLog, end_up_to}
use Rattle.copy_vault.specs.Vault.{CopyState, complete_refusal, state_of}
use Rattle.engine_calls.specs.declared.event.Event.TheVariants as event
use Rattle.engine_calls.specs.declared.refusal.Refusal.TheVariants.{WriteBegun}
use Rattle.engine_rules.specs.EngineState.{EngineState, begun_write, ended_write, forced_through}
use Rattle.engine_rules.specs.EngineView.{MediaView, engine_view}
use Rattle.engine_rules.specs.EngineState.{image_of}
use Rattle.engine_rules.specs.EngineState.{new_state, stored_page, with_stored}
use Rattle.engine_rules.specs.EngineState.{volume_pages}
use Rattle.page_core.specs.Volume.{formatted_pages}
use Rattle.engine_rules.specs.Refusal.{refusal}
use Rattle.txn_table.specs.declared.returns.Return.{Return}

-- ---- refusals

pub repair_begun : (s : EngineState) (copy p : ℕ) → complete_refusal (state_of s.copies copy) ≡ None
    → p < volume_pages s → is_some (image_of s p) ≡ true → refusal s (event.Repair copy p) ≡ Some WriteBegun
repair_begun s copy p whole within begun = rw (whole, lt-leb (volume_pages s) p within, begun) refl

pub repair_may : (s : EngineState) (copy p : ℕ) → complete_refusal (state_of s.copies copy) ≡ None
    → p < volume_pages s → is_some (image_of s p) ≡ false → refusal s (event.Repair copy p) ≡ None
repair_may s copy p whole within idle = rw (whole, lt-leb (volume_pages s) p within, idle) refl

-- ---- a page

pub image_at : {S D : Type 0} (stored : S → List Page) (it : WrittenLog D) (pool : PoolView S) (ckpts : MediaView)
    (p : ℕ) → p < length pool.states → image_of (engine_view stored it pool ckpts).state p ≡ (state_at pool p).writing
image_at stored it pool ckpts p within = get_or-map (λ s. s.writing) pool.states p unwritten None within

-- ---- what stands after a call

pub begun_is : {S D : Type 0} (stored : S → List Page) (old new : WrittenLog D) (pool : PoolView S) (ckpts : MediaView)
    (p : ℕ) (q : Page) → p < length pool.states → new.log ≡ old.log
    → new.forced_end ≡ max old.forced_end (end_up_to old.log q.lsn)
    → (engine_view stored new (with_state pool p (write_begun (state_at pool p) q)) ckpts).state
    ≡ begun_write (forced_through (engine_view stored old pool ckpts).state q.lsn) p q
begun_is stored old new pool ckpts p q within same forced =
    let begun = write_begun (state_at pool p) q in
    let written : written_of (set pool.states p begun) ≡ written_of pool.states =
    map-set (λ s. s.written) pool.states p begun
    ∙ ap (set (written_of pool.states) p) (sym (get_or-map (λ s. s.written) pool.states p unwritten 0 within))
    ∙ set-get_or (written_of pool.states) p 0 in
    let writing : writing_of (set pool.states p begun) ≡ set (writing_of pool.states) p (Some q) =
    map-set (λ s. s.writing) pool.states p begun in
    rw (same, forced, written, writing, length-set pool.states p begun) refl

-- the volume's pages, where one of them is stored anew
pub stored_set : {S : Type 0} (stored : S → List Page) (pool after : PoolView S) (p : ℕ) (q : Page)
    → p < length pool.states → length after.states ≡ length pool.states
    → stored after.store ≡ set (stored pool.store) p q
    → take (length after.states) (stored after.store) ≡ set (take (length pool.states) (stored pool.store)) p q
stored_set stored pool after p q within count store =
    ap (λ (k : ℕ). take k (stored after.store)) count
    ∙ ap (take (length pool.states)) store
    ∙ take-set-lt (length pool.states) (stored pool.store) p q within

-- a page of the volume, as it is stored
pub page_at : {S D : Type 0} (stored : S → List Page) (it : WrittenLog D) (pool : PoolView S) (ckpts : MediaView)
    (p : ℕ) → p < length pool.states
    → stored_page (engine_view stored it pool ckpts).state p ≡ get_or (stored pool.store) p (formatted p)
page_at stored it pool ckpts p within = get_or-take (length pool.states) (stored pool.store) p (formatted p) within

pub ended_is : {S D : Type 0} (stored : S → List Page) (it : WrittenLog D) (pool after : PoolView S)
    (ckpts : MediaView) (p : ℕ) (q : Page) → p < length pool.states → stored after.store ≡ set (stored pool.store) p q
    → after.frames ≡ pool.frames → after.resident ≡ pool.resident
    → after.states ≡ set pool.states p (write_ended (state_at pool p) q.lsn)
    → (engine_view stored it after ckpts).state ≡ ended_write (engine_view stored it pool ckpts).state p q
ended_is stored it pool after ckpts p q within store frames resident states =
    let ended = write_ended (state_at pool p) q.lsn in
    let written : written_of after.states ≡ set (written_of pool.states) p q.lsn =
    ap written_of states ∙ map-set (λ s. s.written) pool.states p ended in
    let writing : writing_of after.states ≡ set (writing_of pool.states) p None =
    ap writing_of states ∙ map-set (λ s. s.writing) pool.states p ended in
    let pages = stored_set stored pool after p q within (ap length states ∙ length-set pool.states p ended) store in
    rw (pages, frames, resident, written, writing) refl

pub repeated_is : {S D : Type 0} (stored : S → List Page) (it : WrittenLog D) (pool after : PoolView S)
    (ckpts : MediaView) (p : ℕ) (q : Page) → p < length pool.states → stored after.store ≡ set (stored pool.store) p q
    → after.frames ≡ pool.frames → after.resident ≡ pool.resident → after.states ≡ pool.states
    → (engine_view stored it after ckpts).state ≡ with_stored (engine_view stored it pool ckpts).state p q
repeated_is stored it pool after ckpts p q within store frames resident states =
    let pages = stored_set stored pool after p q within (ap length states) store in
    rw (pages, frames, resident, states) refl

pub kept_is : {S D : Type 0} (stored : S → List Page) (it : WrittenLog D) (pool after : PoolView S)
    (ckpts : MediaView) → stored after.store ≡ stored pool.store → after.frames ≡ pool.frames
    → after.resident ≡ pool.resident → after.states ≡ pool.states
    → (engine_view stored it after ckpts).state ≡ (engine_view stored it pool ckpts).state
kept_is stored it pool after ckpts store frames resident states = rw (store, frames, resident, states) refl

-- ---- a new engine

map-replicate : {X Y : Type 0} (f : X → Y) (n : ℕ) (x : X) → map f (replicate n x) ≡ replicate n (f x)
map-replicate f zero x = refl
map-replicate f (suc n) x = ap (λ ys. f x ∷ ys) (map-replicate f n x)

pub new_is : {S D : Type 0} (stored : S → List Page) (it : WrittenLog D) (pool : PoolView S) (store : S) (n frames : ℕ)
    (copies : List CopyState) (returns : List Return) → copies ≡ [] → it.log ≡ record { pages = n; records = [] }
    → it.forced_end ≡ 64
    → pool ≡ new_pool store n frames → stored store ≡ formatted_pages n
    → (engine_view stored it pool (record { master = None; session = None; copies = copies; returns = returns })).state
    ≡ new_state n frames
new_is {S = S} stored it pool store n frames copies returns none log forced is holds =
    let written : written_of pool.states ≡ replicate n 0 =
    ap (λ (v : PoolView S). written_of v.states) is ∙ map-replicate (λ s. s.written) n unwritten in
    let writing : writing_of pool.states ≡ replicate n None =
    ap (λ (v : PoolView S). writing_of v.states) is ∙ map-replicate (λ s. s.writing) n unwritten in
    let pages : stored pool.store ≡ formatted_pages n = ap (λ (v : PoolView S). stored v.store) is ∙ holds in
    let resident : pool.resident ≡ [] = ap (λ (v : PoolView S). v.resident) is in
    let limit : pool.frames ≡ frames = ap (λ (v : PoolView S). v.frames) is in
    let count : length pool.states ≡ n =
    ap (λ (v : PoolView S). length v.states) is ∙ length-replicate n unwritten in
    let whole : take (length pool.states) (stored pool.store) ≡ formatted_pages n =
    ap (λ (k : ℕ). take k (stored pool.store)) count ∙ ap (take n) pages
    ∙ take_all n (formatted_pages n) (omega (arith, length-map-range_with_len formatted 0 n)) in
    rw (log, forced, written, writing, resident, limit, whole, none) refl

-- ---- pages behind the volume

-- they are formatted, so the store has the pages of the volume, grown
pub behind_volume : {S : Type 0} (stored : S → List Page) (log : Log) (pool : PoolView S) → IsPoolOf stored log pool
    → length pool.states ≤ length (stored pool.store)
    → IsGrown (take (length pool.states) (stored pool.store)) (stored pool.store)
behind_volume stored log pool is enough =
    let n = length pool.states in
    let pages = stored pool.store in
    let first = take n pages in
    let count = length pages in
    let long : length first ≡ n = omega (arith, length-take n pages) in
    let added = map formatted (range_with_len (length first) (count - length first)) in
    let more : length added ≡ count - length first =
    length-map-range_with_len formatted (length first) (count - length first) in (
      count,
      same_lists pages (grown_to count first) (omega (arith, length-append first added, long, more)) (λ k d lt.
          elim (cases_lt k n) [
            | inl low ↦
                sym (get_or_append_left first added d k (omega (arith, long)) ∙ get_or-take n pages k d low)
            | inr past ↦
                let left : k - length first < count - length first = omega (arith, long) in
                past_is_formatted log k (get_or pages k d) is.valid (omega (arith, is.pages)) (is.stored.pages k d lt).past
                ∙ sym (get_or-append_right first added (length first) k d refl (omega (arith, long))
                ∙ get_or-map-range_with_len formatted (length first) (count - length first) (k - length first) k d left
                (omega (arith, long)))
          ]),
    )
