-- The call that grows the volume: what the engine is after it.
use Rattle.std.proofs.Common.{◌≡◌, ℕ, ◌-◌, ◌<◌, ◌≤◌, List, [], ◌∷◌, ◌++◌, length, get_or, map, replicate, take, refl, sym, ap, ◌∙◌}
use Rattle.std.proofs.Common.{arith, inl, inr}
use Rattle.std.specs.Prelude.{None}
use Rattle.std.specs.List.{range_with_len}
use Rattle.std.proofs.lemmas.Bool.{cases_lt}
use Rattle.std.proofs.lemmas.List.{get_or_append_left, get_or-append_right, get_or-take, length-append, length-map}
use Rattle.std.proofs.lemmas.List.{length-take, same_lists, take-append-le}
use Rattle.std.proofs.lemmas.List.FromFn.{get_or-map-range_with_len, length-map-range_with_len}
use Rattle.page_core.specs.declared.page.Page.{Page}
use Rattle.page_core.specs.Page.{formatted}
use Rattle.page_core.specs.Volume.{grown_to}
use Rattle.page_core.proofs.Public.{length-grown_to}
use Rattle.page_store.specs.Store.{IsGrown}
use Rattle.log_records.specs.declared.limits.TheConstants.{MAX_RECORDS}
use Rattle.log_records.specs.Log.{Log, with_next}
use Rattle.log_records.proofs.Public.{past_is_formatted}
use Rattle.log_rules.specs.Table.{Table}
use Rattle.log_store.specs.WrittenLog.{WrittenLog}
use Rattle.txn_table.proofs.Public.{returns_stay, table_kept}
use Rattle.buffer_pool.specs.Pool.{IsPoolOf, PageState, PoolView, grown_states, unwritten, writing_of, written_of}
use Rattle.buffer_pool.proofs.Public.{length-extended, map-extended}
use Rattle.buffer_pool.proofs.Public.{none_changes}
use Rattle.fuzzy_ckpt.proofs.Public.{open_grown}
use Rattle.engine_calls.specs.declared.event.Event.TheVariants as event
use Rattle.engine_rules.specs.EngineState.{EngineState, end, extend_record, log_of}
use Rattle.engine_rules.specs.EngineView.{IsConsistent, MediaView, engine_view}
use Rattle.engine_rules.specs.Refusal.{refusal}
use Rattle.aries_core.proofs.Appends.{session_later}
use Rattle.engine_rules.proofs.Public.{extended, extended_fit}
use Rattle.engine_rules.proofs.Public.{extend_passes}

pub kept_extended : {S : Type 0} (stored : S → List Page) (s : EngineState) (table : Table) (pool after : PoolView S)
    (media : MediaView) (count : ℕ) → IsConsistent stored s table pool media → refusal s (event.Extend count) ≡ None
    → IsPoolOf stored (with_next (log_of s) (extend_record s count ∷ [])) after
    → IsConsistent stored (extended s count) table after media
kept_extended stored s table pool after media count kept none is =
    let few : length s.log < MAX_RECORDS = let room = (extend_passes s count none).room in omega arith in
    record {
      fit = extended_fit s count kept.fit none;
      table_of_log = table_kept s.log (end s) count table few kept.table_of_log;
      pool_of_log = is;
      session_of_log = kept.session_of_log
          ∙ sym (session_later s (extend_record s count) s.left kept.fit (open_grown s.log (end s) count));
      returns_of_log = returns_stay s.log (extend_record s count) media.returns refl tt kept.returns_of_log;
    }

-- ---- the pages of the volume, as they are stored

-- a page that was stored stays, and each other one is formatted
page_low : (count p : ℕ) (pages : List Page) (d : Page) → p < length pages
    → get_or (grown_to count pages) p d ≡ get_or pages p d
page_low count p pages d low =
    get_or_append_left pages (map formatted (range_with_len (length pages) (count - length pages))) d p low

page_past : (count p : ℕ) (pages : List Page) (d : Page) → length pages ≤ p → p < length (grown_to count pages)
    → get_or (grown_to count pages) p d ≡ formatted p
page_past count p pages d past lt =
    let left = count - length pages in
    let added = map formatted (range_with_len (length pages) left) in
    let more : length added ≡ left = length-map-range_with_len formatted (length pages) left in
    let low : p - length pages < left = omega (arith, length-append pages added) in
    get_or-append_right pages added (length pages) p d refl past
    ∙ get_or-map-range_with_len formatted (length pages) left (p - length pages) p d low (omega arith)

-- a store has grown: the volume's pages in it are those that it had, and formatted ones
volume_grown : {S : Type 0} (stored : S → List Page) (log : Log) (pool : PoolView S) (count added : ℕ)
    → IsPoolOf stored log pool → length pool.states ≤ length (stored pool.store) → length pool.states ≤ count
    → count ≤ length (grown_to added (stored pool.store))
    → take count (grown_to added (stored pool.store)) ≡ grown_to count (take (length pool.states) (stored pool.store))
volume_grown stored log pool count added is enough more whole =
    let n = length pool.states in
    let before = stored pool.store in
    let after = grown_to added before in
    let first = take n before in
    let long : length first ≡ n = omega (arith, length-take n before) in
    let all = length-grown_to count first in
    same_lists (take count after) (grown_to count first)
    (omega (arith, length-take count after, whole, all, long, more)) (λ p d lt.
    let low : p < count = omega (arith, length-take count after, lt) in
    let there : p < length after = omega (arith, low, whole) in
    get_or-take count after p d low ∙ (elim (cases_lt p n) [
      | inl within ↦
          page_low added p before d (omega (arith, within, enough)) ∙ sym (get_or-take n before p d within)
          ∙ sym (page_low count p first d (omega (arith, within, long)))
      | inr past ↦
          here p d past there ∙ sym (page_past count p first d (omega (arith, past, long))
          (omega (arith, all, low, long, more)))
    ]))
  where
    here : (p : ℕ) (d : Page) → length pool.states ≤ p → p < length (grown_to added (stored pool.store))
        → get_or (grown_to added (stored pool.store)) p d ≡ formatted p
    here p d past lt = elim (cases_lt p (length (stored pool.store))) [
      | inl low ↦
          page_low added p (stored pool.store) d low
          ∙ past_is_formatted log p (get_or (stored pool.store) p d) is.valid (omega (arith, is.pages, past))
          (is.stored.pages p d low).past
      | inr behind ↦ page_past added p (stored pool.store) d behind lt
    ]

-- ---- the state, by the log that is written and the pool

pub extended_is : {S D : Type 0} (stored : S → List Page) (old new : WrittenLog D) (pool after : PoolView S)
    (media : MediaView) (count : ℕ) → IsPoolOf stored old.log pool → length pool.states ≤ length (stored pool.store)
    → length pool.states ≤ count → IsGrown (stored pool.store) (stored after.store)
    → count ≤ length (stored after.store)
    → new.log ≡ with_next old.log (extend_record (engine_view stored old pool media).state count ∷ [])
    → new.forced_end ≡ old.forced_end → after.frames ≡ pool.frames → after.resident ≡ pool.resident
    → after.states ≡ grown_states count pool.states
    → (engine_view stored new after media).state ≡ extended (engine_view stored old pool media).state count
extended_is stored old new pool after media count is enough more grown whole next forced frames resident states =
    let s = (engine_view stored old pool media).state in
    let before = pool.states in
    let k = count - length before in
    let many : length after.states ≡ count =
    ap length states ∙ length-extended before count unwritten ∙ omega (arith, more) in
    let pages : take (length after.states) (stored after.store)
    ≡ grown_to count (take (length before) (stored pool.store)) =
    ap (λ (n : ℕ). take n (stored after.store)) many ∙ ap (take count) grown.1
    ∙ volume_grown stored old.log pool count grown.0 is enough more (omega (arith, whole, ap length grown.1)) in
    let written : written_of after.states ≡ written_of before ++ replicate (count - length (written_of before)) 0 =
    ap written_of states ∙ map-extended (λ (p : PageState). p.written) before k unwritten
    ∙ ap (λ (n : ℕ). written_of before ++ replicate (count - n) 0)
    (sym (length-map before (λ (p : PageState). p.written))) in
    let writing : writing_of after.states ≡ writing_of before ++ replicate (count - length (writing_of before)) None =
    ap writing_of states ∙ map-extended (λ (p : PageState). p.writing) before k unwritten
    ∙ ap (λ (n : ℕ). writing_of before ++ replicate (count - n) None)
    (sym (length-map before (λ (p : PageState). p.writing))) in
    let kept = resident ∙ sym (none_changes (extend_record s count) pool.resident refl) in
    λ i. record {
      pages = ap (λ (l : Log). l.pages) next i;
      log = ap (λ (l : Log). l.records) next i;
      forced_end = forced i;
      master = media.master;
      frames = frames i;
      resident = kept i;
      stored = pages i;
      written = written i;
      writing = writing i;
      left = s.left;
      copies = media.copies;
    }

-- where the store failed, the volume is as before, whatever was added behind it
pub unextended_is : {S D : Type 0} (stored : S → List Page) (it new : WrittenLog D) (pool after : PoolView S)
    (media : MediaView) → new.log ≡ it.log → new.forced_end ≡ it.forced_end
    → length pool.states ≤ length (stored pool.store) → IsGrown (stored pool.store) (stored after.store)
    → after ≡ record pool { store = after.store }
    → (engine_view stored new after media).state ≡ (engine_view stored it pool media).state
unextended_is {S = S} stored it new pool after media same forced enough grown rest =
    let n = length pool.states in
    let before = stored pool.store in
    let added = map formatted (range_with_len (length before) (grown.0 - length before)) in
    let pages : take (length after.states) (stored after.store) ≡ take n before =
    ap (λ (v : PoolView S). take (length v.states) (stored after.store)) rest ∙ ap (take n) grown.1
    ∙ take-append-le n before added enough in
    λ i. record {
      pages = ap (λ (l : Log). l.pages) same i;
      log = ap (λ (l : Log). l.records) same i;
      forced_end = forced i;
      master = media.master;
      frames = ap (λ (v : PoolView S). v.frames) rest i;
      resident = ap (λ (v : PoolView S). v.resident) rest i;
      stored = pages i;
      written = ap (λ (v : PoolView S). written_of v.states) rest i;
      writing = ap (λ (v : PoolView S). writing_of v.states) rest i;
      left = (engine_view stored it pool media).state.left;
      copies = media.copies;
    }

-- ---- its refusals
