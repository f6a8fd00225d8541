-- An engine that goes on where an older one was lost is fit.
use Rattle.std.proofs.Common.{◌≡◌, ℕ, ◌+◌, ◌<◌, ◌≤◌, List, [], ◌∷◌, length, get_or, take, refl, sym, ap}
use Rattle.std.proofs.Common.{subst, ◌∙◌, arith, true, inl, inr, suc, drop, drop-cons, ◌++◌}
use Rattle.std.specs.Prelude.{Contains, Option, Some, None, IfSome, IsSome, IsSomeAnd, is_none}
use Rattle.std.proofs.Math.Bool.{false≢true}
use Rattle.std.proofs.Math.ListN.{get_or-map}
use Rattle.std.proofs.lemmas.Bool.{cases_lt}
use Rattle.std.specs.List.{All, sum_by}
use Rattle.std.specs.Option.{option_map, option_map_or}
use Rattle.std.proofs.lemmas.List.{get_or_past, length-map, take-append-drop, take_all}
use Rattle.std.proofs.lemmas.List.FromFn.{get_or-map-range_with_len, length-map-range_with_len}
use Rattle.page_core.specs.declared.page.Page.{Page}
use Rattle.log_records.specs.declared.record.Record.{Record}
use Rattle.log_records.specs.declared.record.Record.TheVariants.{EndChkpt}
use Rattle.log_records.specs.Coverage.{Covers, rec_lsn}
use Rattle.log_records.proofs.Public.{image_is_clean}
use Rattle.log_records.specs.Image.{image, redo_all}
use Rattle.log_records.specs.Log.{IsLog, Log, lsn_of, page_count}
use Rattle.log_records.specs.Record.{own_lsn}
use Rattle.log_rules.specs.Checkpoint.{Checkpoint, IsCompleteCheckpoint, open_checkpoint}
use Rattle.log_rules.specs.Checkpoint.{redo_point}
use Rattle.log_rules.specs.Linked.{HasOldTxns, IsLinked, MayEnd, MayFollow}
use Rattle.log_records.specs.declared.limits.TheConstants.{MAX_RECORDS}
use Rattle.log_rules.specs.Transactions.{open_in, owed, owed_by}
use Rattle.log_rules.proofs.Public.{end-of_complete}
use Rattle.log_store.specs.WrittenLog.{WrittenLog}
use Rattle.buffer_pool.specs.Pool.{PageState, PoolView, clean_pool, is_clean, stored_as_now}
use Rattle.buffer_pool.specs.Pool.{stored_states, unwritten, writing_of, written_of}
use Rattle.buffer_pool.proofs.Public.{pool_resumed, state_of_page, image_below}
use Rattle.fuzzy_ckpt.specs.declared.point.Point.{Point}
use Rattle.fuzzy_ckpt.specs.Ckpt.{AllCover, CkptView, Phase}
use Rattle.fuzzy_ckpt.specs.LogCheckpoints.{IsLastPoint, gathered_of}
use Rattle.fuzzy_ckpt.proofs.Public.{now_covers}
use Rattle.copy_vault.specs.Copy.{CopyView}
use Rattle.copy_vault.specs.Vault.{CopyState, complete, dropped, reading, state_of}
use Rattle.copy_coverage.specs.Copied.{AreCopied, copy_in}
use Rattle.copy_coverage.specs.Retired.{HasRoomForUndo}
use Rattle.engine_rules.specs.EngineState.{HaveMaster, IsFit, IsGathering, IsMasterOf}
use Rattle.engine_rules.specs.EngineView.{MediaView}
use Rattle.engine_rules.specs.EngineView.{engine_view}
use Rattle.engine_rules.specs.Gather.{Left, left_of, none_left, pages_left, session_of}
use Rattle.engine_rules.specs.Resumed.{MayResume, resumed_state}

-- ---- the stored pages

page_at : (log : Log) (p : ℕ) (d : Page) → p < page_count log
    → get_or (redo_all log.records (page_count log)) p d ≡ image log.records p
page_at log p d lt = get_or-map-range_with_len (image log.records) 0 (page_count log) p p d lt (omega arith)

count_of : (log : Log) → length (redo_all log.records (page_count log)) ≡ page_count log
count_of log = length-map-range_with_len (image log.records) 0 (page_count log)

-- each has all of its changes
all_cover : (log : Log) (bound : ℕ) → IsLog log
    → AllCover log.records (redo_all log.records (page_count log)) bound
all_cover log bound valid p d lt =
    let below : p < page_count log = omega (arith, count_of log) in
    subst (λ (page : Page). Covers log.records p page bound) (sym (page_at log p d below)) (now_covers log p bound valid)

-- and none is as new as the log's end
all_below : (log : Log) → IsLog log
    → All (λ (page : Page). page.lsn < lsn_of (length log.records)) (redo_all log.records (page_count log))
all_below log valid = λ p d lt.
    let below : p < page_count log = omega (arith, count_of log) in
    subst (λ (page : Page). page.lsn < lsn_of (length log.records)) (sym (page_at log p d below)) (image_below log p valid)

-- ---- its checkpoints

-- no transaction is open, so none is left to gather
no_old : (log : Log) (c : Checkpoint) → open_in log.records ≡ [] → HasOldTxns log.records c
no_old log c closed = λ k d lt. absurd (omega (arith, ap length closed, lt))

abbrev pub left_for : Option Checkpoint → Left
left_for o = option_map_or (λ c. none_left) o pages_left

gathered_for : (log : Log) (o : Option Checkpoint) → IsLog log → open_in log.records ≡ []
    → open_checkpoint log.records ≡ o
    → IfSome o (IsGathering log (redo_all log.records (page_count log)) (left_for o))
gathered_for log None valid closed is = tt
gathered_for log (Some c) valid closed is = record {
  ckpt = record {
    ckpt = c;
    still_open = is;
    same_begin = refl;
    same_pages = refl;
    same_redo = refl;
    behind = no_old log c closed;
  };
  covered = λ p d lt passed. all_cover log (redo_point c) valid p d lt;
}

pub session_for : (log : Log) (o : Option Checkpoint)
    → option_map (gathered_of log) o ≡ option_map (session_of log (left_for o)) o
session_for log None = refl
session_for log (Some c) = refl

pub left_is : (log : Log) (o : Option Checkpoint) (session : Option (CkptView Phase))
    → session ≡ option_map (gathered_of log) o
    → option_map_or (λ c. left_of c.phase) session pages_left ≡ left_for o
left_is log None session is = ap (λ (s : Option (CkptView Phase)). option_map_or (λ c. left_of c.phase) s pages_left) is
left_is log (Some c) session is = ap (λ (s : Option (CkptView Phase)). option_map_or (λ c. left_of c.phase) s pages_left) is

-- the end of a checkpoint stands below the log's end
end_below : (log : Log) (end begin redo : ℕ) → IsLog log → Contains log.records (EndChkpt end begin redo)
    → end < lsn_of (length log.records)
end_below log end begin redo valid (k, lt, is) =
    let own : own_lsn (get_or log.records k (EndChkpt end begin redo)) ≡ lsn_of k =
    (valid.records k (EndChkpt end begin redo) lt).lsn in
    let same : end ≡ lsn_of k = sym (ap own_lsn is) ∙ own in
    omega (arith, same, lt)

-- a record of a list stands between those before and those behind it
around : (rs : List Record) (i : ℕ) (r : Record) → i < length rs → get_or rs i r ≡ r
    → rs ≡ take i rs ++ r ∷ drop (suc i) rs
around rs i r lt is =
    sym (take-append-drop i rs)
    ∙ ap (λ (b : List Record). take i rs ++ b) (drop-cons rs i r lt ∙ ap (λ (x : Record). x ∷ drop (suc i) rs) is)

same_begin : (o : Option Checkpoint) (begin redo : ℕ) (P : Checkpoint → Type 0)
    → IsSomeAnd o (λ c. MayEnd begin redo c × P c) → IsSomeAnd o (λ c. c.begin ≡ begin)
same_begin (Some c) begin redo P may = sym may.0.same
same_begin None begin redo P may = may

-- a checkpoint is complete where its end stands, with the redo point that stands there
abbrev completed : (rs : List Record) (begin end redo : ℕ) → IsLinked rs → Contains rs (EndChkpt end begin redo)
    → IsCompleteCheckpoint rs begin end
completed rs begin end redo linked (i, lt, is) =
    let may : MayFollow (take i rs) (EndChkpt end begin redo) =
    subst (MayFollow (take i rs)) is (linked i (EndChkpt end begin redo) lt) in
    record {
      before = take i rs;
      behind = drop (suc i) rs;
      redo = redo;
      ended = around rs i (EndChkpt end begin redo) lt is;
      begun = same_begin (open_checkpoint (take i rs)) begin redo (HasOldTxns (take i rs)) may;
    }

master_for : (log : Log) (master : Option Point) → IsLog log → IsLinked log.records
    → IsLastPoint log log.records master
    → IfSome master (IsMasterOf log (redo_all log.records (page_count log)) (lsn_of (length log.records)))
master_for log None valid linked last = tt
master_for log (Some point) valid linked (is, before) = record {
  complete = completed log.records point.begin point.end point.redo linked is.ended;
  same_redo = refl;
  same_pages = is.same_pages;
  forced = end_below log point.end point.begin point.redo valid is.ended;
  covered = all_cover log point.redo valid;
}

-- ---- its copies

-- a copy that is there is complete
there_is_complete : (state : CopyState) (copy : CopyView) → ((c : CopyView) → ¬ (state ≡ reading c))
    → copy_in state ≡ Some copy → state ≡ complete copy
there_is_complete (reading c) copy none is = absurd (none c refl)
there_is_complete (complete c) copy none is = let same : c ≡ copy = cc in ap complete same
there_is_complete dropped copy none is = cc

copies_for : (log : Log) (copies : List CopyState) → IsLog log → MayResume log copies
    → AreCopied log (lsn_of (length log.records)) (redo_all log.records (page_count log)) copies
copies_for log copies valid may =
    let are = may.restorable in
    record {
      few = are.few;
      each = λ id copy is. are.each id copy (there_is_complete (state_of copies id) copy (may.none_read id) is);
      decided = are.decided;
      read = λ id copy is. absurd (may.none_read id copy is);
      covered = λ id copy older is stands p decided. are.covered id copy older
          (there_is_complete (state_of copies id) copy (may.none_read id) is) stands p;
    }

master_there : (log : Log) (master : Option Point) → IsLastPoint log log.records master
    → (begin end : ℕ) × IsCompleteCheckpoint log.records begin end → IsSome master
master_there log None none (begin, end, is) =
    let has = end-of_complete log.records begin end is in
    absurd (none end begin has.0 has.1)
master_there log (Some point) last has = refl

noted_for : (log : Log) (copies : List CopyState) (master : Option Point) → MayResume log copies
    → IsLastPoint log log.records master → HaveMaster master copies
noted_for log copies master may last = λ id copy is.
    let found = there_is_complete (state_of copies id) copy (may.none_read id) is in
    master_there log master last (may.noted id copy found)

-- ---- the engine

-- the last write of each page is that of its last change
written_at : (log : Log) (p : ℕ) → p < page_count log
    → get_or (written_of (stored_states (redo_all log.records (page_count log)))) p 0 ≡ (image log.records p).lsn
written_at log p lt =
    let pages = redo_all log.records (page_count log) in
    get_or-map (λ (s : PageState). s.written) (stored_states pages) p unwritten
    ∙ ap (λ (s : PageState). s.written) (state_of_page log pages refl p unwritten lt)

-- and none is being written
writing_at : (log : Log) (p : ℕ)
    → get_or (writing_of (stored_states (redo_all log.records (page_count log)))) p None ≡ None
writing_at log p =
    let pages = redo_all log.records (page_count log) in
    let states = stored_states pages in
    let long : length states ≡ page_count log =
    length-map pages (λ (page : Page). stored_as_now page.lsn) ∙ count_of log in
    get_or-map (λ (s : PageState). s.writing) states p unwritten
    ∙ elim (cases_lt p (page_count log)) [
      | inl lt ↦ ap (λ (s : PageState). s.writing) (state_of_page log pages refl p unwritten lt)
      | inr past ↦ ap (λ (s : PageState). s.writing) (get_or_past states p unwritten (omega (arith, past, long)))
    ]

-- nothing is open at the end of the log, and all of it is forced
room_at_end : (log : Log) → IsLog log → open_in log.records ≡ []
    → HasRoomForUndo log.records (lsn_of (length log.records))
room_at_end log valid closed n le past =
    let rs = log.records in
    let all : take n rs ≡ rs = take_all n rs (omega (arith, past)) in
    let none : owed rs ≡ 0 = ap (sum_by (owed_by rs)) closed in
    let few = valid.count in
    subst (λ (xs : List Record). length xs + owed xs ≤ MAX_RECORDS) (sym all) (omega (arith, none, few))

pub resumed_fit : (log : Log) (frames : ℕ) (master : Option Point) (copies : List CopyState) → IsLog log
    → MayResume log copies → IsLastPoint log log.records master → IsFit (resumed_state log frames master copies)
resumed_fit log frames master copies valid may last =
    let pages = redo_all log.records (page_count log) in
    let pool = pool_resumed (λ (ps : List Page). ps) pages log pages frames valid refl refl in
    let long : length (stored_states pages) ≡ page_count log =
    length-map pages (λ (page : Page). stored_as_now page.lsn) ∙ count_of log in
    record {
      valid = valid;
      linked = may.linked;
      room = room_at_end log valid may.closed;
      forced = (length log.records, omega arith, refl);
      counted = record {
        stored = count_of log;
        written = length-map (stored_states pages) (λ (s : PageState). s.written) ∙ long;
        writing = length-map (stored_states pages) (λ (s : PageState). s.writing) ∙ long;
      };
      resident = λ k d lt. absurd (omega (arith, lt));
      held = λ p lt dirty.
          let clean : is_clean log.records (written_of (stored_states pages)) p ≡ true =
          ap (λ (n : ℕ). is_none (rec_lsn log.records p n)) (written_at log p lt)
          ∙ ap is_none (image_is_clean log p valid) in
          absurd (false≢true (sym dirty ∙ clean));
      stored = pool.stored;
      stable = record {
        pages = all_below log valid;
        images = λ p. rw (writing_at log p) tt;
      };
      gathered = gathered_for log (open_checkpoint log.records) valid may.closed refl;
      master = master_for log master valid may.linked last;
      copied = copies_for log copies valid may;
      noted = noted_for log copies master may last;
    }

-- what is seen of it
pub resumed_is : {S D : Type 0} (stored : S → List Page) (it : WrittenLog D) (pool : PoolView S) (store : S) (log : Log)
    (frames : ℕ) (ckpts : MediaView) → it.log ≡ log → it.forced_end ≡ lsn_of (length log.records)
    → pool ≡ clean_pool store (redo_all log.records (page_count log)) frames
    → stored store ≡ redo_all log.records (page_count log)
    → ckpts.session ≡ option_map (gathered_of log) (open_checkpoint log.records)
    → (engine_view stored it pool ckpts).state ≡ resumed_state log frames ckpts.master ckpts.copies
resumed_is {S = S} {D = D} stored it pool store log frames ckpts log_is forced pool_is stored_is session =
    let pages = redo_all log.records (page_count log) in
    let states = stored_states pages in
    let long : length states ≡ length pages = length-map pages (λ (page : Page). stored_as_now page.lsn) in
    let volume : take (length states) (stored store) ≡ pages =
    ap (take (length states)) stored_is ∙ take_all (length states) pages (omega (arith, long)) in
    let left = left_is log (open_checkpoint log.records) ckpts.session session in
    ap (λ (l : Log). (engine_view stored (record it { log = l }) pool ckpts).state) log_is
    ∙ ap (λ (end : ℕ). (engine_view stored (record it { log = log; forced_end = end }) pool ckpts).state) forced
    ∙ ap (λ (q : PoolView S). (engine_view stored (record it {
      log = log;
      forced_end = lsn_of (length log.records);
    }) q ckpts).state) pool_is
    ∙ ap (λ (ps : List Page). record (resumed_state log frames ckpts.master ckpts.copies) {
      stored = ps;
      left = option_map_or (λ c. left_of c.phase) ckpts.session pages_left;
    }) volume
    ∙ ap (λ (l : Left). record (resumed_state log frames ckpts.master ckpts.copies) { left = l }) left
