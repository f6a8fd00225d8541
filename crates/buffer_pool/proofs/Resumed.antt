-- A pool over stored pages that are as their log makes them.
use Rattle.std.proofs.Common.{◌≡◌, ℕ, ◌+◌, ◌-◌, ◌<◌, List, [], ◌∷◌, ◌++◌, length, get_or, replicate, set, take}
use Rattle.std.proofs.Common.{sym, ap, subst, ◌∙◌, arith, suc, true}
use Rattle.std.specs.Prelude.{None, is_none}
use Rattle.std.specs.List.{range_with_len}
use Rattle.std.proofs.Math.Bool.{false≢true}
use Rattle.std.proofs.Math.ListN.{get_or-map}
use Rattle.std.proofs.Math.Seq.{get_or-append_seam, set-append_seam, take-suc}
use Rattle.std.proofs.lemmas.List.{append_assoc, length-map, length-take, map-append}
use Rattle.std.proofs.lemmas.List.FromFn.{get_or-map-range_with_len, length-map-range_with_len}
use Rattle.std.proofs.lemmas.Simd.{map-map}
use Rattle.page_core.specs.declared.page.Page.{Page}
use Rattle.log_records.specs.Coverage.{AreStored}
use Rattle.log_records.specs.Image.{image, redo_all}
use Rattle.log_records.specs.Log.{IsLog, Log, page_count}
use Rattle.log_records.proofs.Public.{past_now}
use Rattle.buffer_pool.specs.Pool.{IsPoolOf, PageState, clean_pool, is_clean_in, stored_as_now, stored_states}
use Rattle.buffer_pool.specs.Pool.{unwritten, write_ended, writing_of, written_of}
use Rattle.buffer_pool.proofs.Repaired.{state_repaired}

-- the states of the first pages, and those of the others, which are not written
abbrev filled : List Page → ℕ → List PageState
filled pages i = stored_states (take i pages) ++ replicate (length pages - i) unwritten

-- the next page has its state
pub filled_next : (pages : List Page) (i : ℕ) (page : Page) → i < length pages → get_or pages i page ≡ page
    → set (filled pages i) i (write_ended (get_or (filled pages i) i unwritten) page.lsn)
    ≡ filled pages (i + 1)
filled_next pages i page lt is =
    let front = stored_states (take i pages) in
    let rest = replicate (length pages - (i + 1)) unwritten in
    let counted : i ≡ length front =
    omega (arith, length-map (take i pages) (λ (p : Page). stored_as_now p.lsn), length-take i pages) in
    let more : length pages - i ≡ suc (length pages - (i + 1)) = omega arith in
    let split : filled pages i ≡ front ++ unwritten ∷ rest =
    ap (λ (k : ℕ). front ++ replicate k unwritten) more in
    let old : get_or (filled pages i) i unwritten ≡ unwritten =
    ap (λ (xs : List PageState). get_or xs i unwritten) split
    ∙ ap (λ (k : ℕ). get_or (front ++ unwritten ∷ rest) k unwritten) counted
    ∙ get_or-append_seam front unwritten rest unwritten in
    let new : PageState = stored_as_now page.lsn in
    let done : set (filled pages i) i (write_ended (get_or (filled pages i) i unwritten) page.lsn)
    ≡ front ++ new ∷ rest =
    ap (λ (s : PageState). set (filled pages i) i (write_ended s page.lsn)) old
    ∙ ap (λ (xs : List PageState). set xs i new) split
    ∙ ap (λ (k : ℕ). set (front ++ unwritten ∷ rest) k new) counted
    ∙ set-append_seam front unwritten rest new in
    let step : i + 1 ≡ suc i = omega arith in
    let last : stored_states (take (i + 1) pages) ≡ front ++ new ∷ [] =
    ap (λ (k : ℕ). stored_states (take k pages)) step
    ∙ ap stored_states (take-suc pages i page lt ∙ ap (λ (p : Page). take i pages ++ p ∷ []) is)
    ∙ map-append (λ (p : Page). stored_as_now p.lsn) (take i pages) (page ∷ []) in
    done ∙ sym (append_assoc front (new ∷ []) rest) ∙ ap (λ (xs : List PageState). xs ++ rest) (sym last)

-- ---- the pool

-- of each page its state
pub state_of_page : (log : Log) (pages : List Page) → pages ≡ redo_all log.records (page_count log) → (p : ℕ)
    (d : PageState) → p < page_count log
    → get_or (stored_states pages) p d ≡ stored_as_now (image log.records p).lsn
state_of_page log pages are p d lt =
    let n = page_count log in
    ap (λ (xs : List Page). get_or (stored_states xs) p d) are
    ∙ ap (λ (xs : List PageState). get_or xs p d)
    (map-map (λ (page : Page). stored_as_now page.lsn) (image log.records) (range_with_len 0 n))
    ∙ get_or-map-range_with_len (λ k. stored_as_now (image log.records k).lsn) 0 n p p d lt (omega arith)

count_of_pages : (log : Log) (pages : List Page) → pages ≡ redo_all log.records (page_count log)
    → length pages ≡ page_count log
count_of_pages log pages are =
    ap length are ∙ length-map-range_with_len (image log.records) 0 (page_count log)

-- each stored page is that of its last write
stored_now : (log : Log) (pages : List Page) → pages ≡ redo_all log.records (page_count log)
    → AreStored log.records pages (written_of (stored_states pages)) (writing_of (stored_states pages))
stored_now log pages are =
    let rs = log.records in
    let n = page_count log in
    let states = stored_states pages in
    let counted = count_of_pages log pages are in
    let long : length states ≡ length pages =
    length-map pages (λ (page : Page). stored_as_now page.lsn) in
    record {
      pages = λ p d lt.
          let below : p < n = omega (arith, counted) in
          let page : get_or pages p d ≡ image rs p =
          ap (λ (xs : List Page). get_or xs p d) are
          ∙ get_or-map-range_with_len (image rs) 0 n p p d below (omega arith) in
          let lsn : get_or (written_of states) p 0 ≡ (image rs p).lsn =
          get_or-map (λ (s : PageState). s.written) states p unwritten
          ∙ ap (λ (s : PageState). s.written) (state_of_page log pages are p unwritten below) in
          rw (page, lsn) (record { past = past_now rs p; reached = omega arith });
      images = λ p d lt.
          let below : p < n = omega (arith, counted) in
          let none : get_or (writing_of states) p None ≡ None =
          get_or-map (λ (s : PageState). s.writing) states p unwritten
          ∙ ap (λ (s : PageState). s.writing) (state_of_page log pages are p unwritten below) in
          rw none tt;
    }

pub pool_resumed : {S : Type 0} (stored_in : S → List Page) (store : S) (log : Log) (pages : List Page) (frames : ℕ)
    → IsLog log → stored_in store ≡ pages → pages ≡ redo_all log.records (page_count log)
    → IsPoolOf stored_in log (clean_pool store pages frames)
pool_resumed stored_in store log pages frames valid stored are =
    let states = stored_states pages in
    let counted = count_of_pages log pages are in
    let long : length states ≡ length pages =
    length-map pages (λ (page : Page). stored_as_now page.lsn) in
    record {
      valid = valid;
      pages = sym (long ∙ counted);
      few = omega arith;
      within = λ k d lt. absurd (omega arith);
      resident = λ k d lt. absurd (omega arith);
      held = λ p lt dirty.
          let below : p < page_count log = omega (arith, counted, long) in
          let clean : is_clean_in states p ≡ true =
          ap (λ (s : PageState). is_none s.rec_lsn) (state_of_page log pages are p unwritten below) in
          absurd (false≢true (sym dirty ∙ clean));
      states = λ p d lt.
          let below : p < page_count log = omega (arith, counted, long) in
          rw (state_of_page log pages are p d below) (state_repaired log p valid);
      stored = subst (λ (xs : List Page). AreStored log.records xs (written_of states) (writing_of states))
          (sym stored) (stored_now log pages are);
    }
