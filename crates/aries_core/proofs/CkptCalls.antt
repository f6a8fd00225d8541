-- The calls that take a checkpoint: what they make of an engine that is in step with its log.
use Rattle.std.proofs.Common.{◌≡◌, ℕ, ◌<◌, ◌++◌, List, [], ◌∷◌, length, refl, sym, ap}
use Rattle.std.proofs.Common.{subst, ◌∙◌, arith, inr}
use Rattle.std.specs.Prelude.{Option, Some, None, IfSome, IsSome, IsSomeAnd, Result, Ok, Err, if◌then◌else◌}
use Rattle.std.specs.Option.{option_map, option_map_or}
use Rattle.std.proofs.lemmas.Option.{same_Some}
use Rattle.page_core.specs.declared.page.Page.{Page}
use Rattle.log_records.specs.declared.limits.TheConstants.{MAX_RECORDS}
use Rattle.log_records.specs.declared.record.Record.{Record}
use Rattle.log_records.specs.declared.record.Record.TheVariants.{BeginChkpt}
use Rattle.log_records.specs.Log.{IsLog, Log, lsn_of, page_count_below, with_next}
use Rattle.log_records.specs.Record.{IsOfCheckpoint, change_of}
use Rattle.log_rules.specs.Checkpoint.{Checkpoint, checkpoint_after, open_checkpoint, redo_point}
use Rattle.log_rules.specs.Checkpoint.{with_pages as taking_pages, with_txn as taking_txn}
use Rattle.log_records.specs.DirtyPage.{entries_of}
use Rattle.log_rules.specs.Linked.{MayFollow}
use Rattle.log_rules.specs.Table.{Table}
use Rattle.log_store.specs.WrittenLog.{WrittenLog}
use Rattle.buffer_pool.specs.Pool.{IsPoolOf, PoolView, written_of}
use Rattle.std.proofs.Common.{◌≤◌, take}
use Rattle.std.proofs.lemmas.List.{length-take}
use Rattle.fuzzy_ckpt.proofs.Public.{behind_grown}
use Rattle.aries_core.proofs.PoolStates.{behind_volume}
use Rattle.fuzzy_ckpt.specs.declared.point.Point.{Point}
use Rattle.fuzzy_ckpt.specs.Ckpt.{AreCovered, CkptView, IsCkptOf, Phase, in_txns}
use Rattle.fuzzy_ckpt.specs.Answers.{IsUnforced}
use Rattle.fuzzy_ckpt.specs.Steps.{Gathering, end_of, end_record, gather_step, new_ckpt, with_step}
use Rattle.fuzzy_ckpt.proofs.Public.{pool_kept, table_kept}
use Rattle.fuzzy_ckpt.proofs.Public.{open_push}
use Rattle.engine_calls.specs.declared.event.Answer.{Answer}
use Rattle.engine_calls.specs.declared.event.Answer.TheVariants as answer
use Rattle.engine_calls.specs.declared.event.Event.{Event}
use Rattle.engine_calls.specs.declared.event.Event.TheVariants as event
use Rattle.engine_calls.specs.declared.refusal.Refusal.{Refusal}
use Rattle.engine_calls.specs.declared.refusal.Refusal.TheVariants.{LogFault, OutOfMemory}
use Rattle.engine_rules.specs.EngineState.{EngineState, IsFit, closed, effect, end, end_ckpt_record}
use Rattle.engine_rules.specs.EngineView.{MediaView, IsConsistent}
use Rattle.engine_rules.specs.EngineState.{forced_to, gather_effect, gathered_record, log_of, next_step}
use Rattle.engine_rules.specs.EngineView.{engine_view}
use Rattle.engine_rules.specs.EngineState.{point_of}
use Rattle.engine_calls.specs.EventFits.{EventFits}
use Rattle.engine_rules.specs.Gather.{Left, is_done, left_of, none_left, pages_left, session_of, txns_left}
use Rattle.engine_rules.specs.Refusal.{refusal}
use Rattle.engine_rules.specs.Step.{Fails, ForcedPart, Step, TakesMemory}
use Rattle.engine_rules.proofs.Public.{fit_of_step}
use Rattle.engine_rules.proofs.Public.{follows, gather_record_has, none_is_not_some}
use Rattle.engine_rules.proofs.Public.{begun_before, cursor_after_txn, end_ckpt_follows, first_txn, gathering_of, new_is_session}
use Rattle.engine_rules.proofs.Public.{past_is_session, session_same}
use Rattle.buffer_pool.proofs.Public.{none_changes}
use Rattle.engine_rules.proofs.Public.{PassesPages, PassesTxns, TakesPages, TakesTxn, WasDone}
use Rattle.engine_rules.proofs.Public.{at_left, ckpt_end_is, gather_case, pages_record, txn_entry, with_pages, with_txn}
use Rattle.engine_rules.proofs.Public.{ckpt_begin_passes, ckpt_end_passes, gather_passes}
use Rattle.txn_table.specs.Returns.{HasReturns}
use Rattle.txn_table.proofs.Public.{returns_stay}
use Rattle.aries_core.proofs.Returned.{none_of_checkpoint}

-- what a call says of the state after it: it is a step, and the engine is in step with its log
pub record CkptCalled {S D : Type 0} (stored : S → List Page) (it new : WrittenLog D)
    (table : Table) (pool : PoolView S)
    (ckpts after : MediaView) (call : Event) (reply : Result Answer Refusal) : Type 0 where
  pub step : Step (engine_view stored it pool ckpts).state call reply (engine_view stored new pool after).state
  pub kept : IsConsistent stored (engine_view stored new pool after).state table pool after

-- the open checkpoint has this session
abbrev HasSession : Log → Option (CkptView Phase) → Type 0
HasSession log session =
    session
    ≡ option_map (session_of log (option_map_or (λ c. left_of c.phase) session pages_left)) (open_checkpoint log.records)

-- one record of a checkpoint more
with_record : {S D : Type 0} (stored : S → List Page) (it new : WrittenLog D) (table : Table) (pool : PoolView S)
    (ckpts after : MediaView) (call : Event) (reply : Result Answer Refusal) (r : Record)
    → IsConsistent stored (engine_view stored it pool ckpts).state table pool ckpts → EventFits call
    → Step (engine_view stored it pool ckpts).state call reply (engine_view stored new pool after).state
    → new.log ≡ with_next it.log (r ∷ []) → IsOfCheckpoint r → MayFollow it.log.records r
    → length it.log.records < MAX_RECORDS → HasSession new.log after.session → after.returns ≡ ckpts.returns
    → CkptCalled stored it new table pool ckpts after call reply
with_record stored it new table pool ckpts after call reply r kept fits step logged of may few session alike =
    let s = (engine_view stored it pool ckpts).state in
    let fit = fit_of_step s call reply (engine_view stored new pool after).state kept.fit fits step in
    let valid : IsLog (with_next it.log (r ∷ [])) = subst IsLog logged fit.valid in
    record {
      step = step;
      kept = record {
        fit = fit;
        table_of_log = rw logged (table_kept it.log.records r table of may few kept.table_of_log);
        pool_of_log = rw logged (pool_kept stored it.log r pool of valid kept.pool_of_log);
        session_of_log = session;
        returns_of_log = rw logged (subst (HasReturns (it.log.records ++ r ∷ [])) (sym alike)
            (returns_stay it.log.records r ckpts.returns (none_of_checkpoint it.log.records r of) may
            kept.returns_of_log));
      };
    }

-- ---- a checkpoint begins

pub ckpt_begun : {S D : Type 0} (stored : S → List Page) (it new : WrittenLog D) (table : Table) (pool : PoolView S)
    (ckpts after : MediaView) (lsn : ℕ) → IsConsistent stored (engine_view stored it pool ckpts).state table pool ckpts
    → refusal (engine_view stored it pool ckpts).state event.CkptBegin ≡ None
    → new.log ≡ with_next it.log (BeginChkpt (end_of it.log.records) ∷ []) → new.forced_end ≡ it.forced_end
    → after ≡ record ckpts { session = Some (new_ckpt it.log) } → lsn ≡ end_of it.log.records
    → CkptCalled stored it new table pool ckpts after event.CkptBegin (Ok (answer.Logged lsn))
ckpt_begun stored it new table pool ckpts after lsn kept none logged forced is at =
    let s = (engine_view stored it pool ckpts).state in
    let r = BeginChkpt (end_of it.log.records) in
    let passes = ckpt_begin_passes s none in
    let room = passes.room in
    let state : (engine_view stored new pool after).state
    ≡ (effect s event.CkptBegin).state = rw (is, logged, forced, none_changes r pool.resident refl) refl in
    with_record stored it new table pool ckpts after event.CkptBegin (Ok (answer.Logged lsn)) r kept tt
    (none, ap answer.Logged at, state) logged tt passes.idle (omega arith)
    (rw (is, logged) (ap Some (new_is_session it.log)
    ∙ ap (option_map (session_of (with_next it.log (r ∷ [])) pages_left)) (sym (open_push it.log.records r))))
    (ap (λ (x : MediaView). x.returns) is)

-- ---- its gather goes on

-- what a step of a gather leaves is the session of the checkpoint that is open after it
abbrev LeavesSession : EngineState → Gathering → Type 0
LeavesSession s g = HasSession (with_step (log_of s) g.next) (Some g.ckpt)

opened : (s : EngineState) (c after : Checkpoint) (left : Left) (r : Record) → open_checkpoint s.log ≡ Some c
    → checkpoint_after (Some c) r ≡ Some after → after.begin < end s
    → option_map (session_of (with_next (log_of s) (r ∷ [])) left) (open_checkpoint (s.log ++ r ∷ []))
    ≡ Some (session_of (log_of s) left after)
opened s c after left r is made before =
    ap (option_map (session_of (with_next (log_of s) (r ∷ [])) left))
    (open_push s.log r ∙ ap (λ (o : Option Checkpoint). checkpoint_after o r) is ∙ made)
    ∙ ap Some (session_same (log_of s) r left after before)

session_after : (s : EngineState) (c : Checkpoint) → IsFit s → open_checkpoint s.log ≡ Some c
    → LeavesSession s (next_step s c)
session_after s c fit is =
    let view : Phase → CkptView Phase = λ phase. record {
      begin = c.begin;
      pages = page_count_below (log_of s) c.begin;
      redo = redo_point c;
      phase = phase;
    } in
    let before = begun_before s c fit is in
    elim (gather_case s c) [
      | TakesPages pages finds ↦
          subst (LeavesSession s) (sym (at_left s c pages_left finds.left ∙ ap (with_pages s c) finds.found))
          (ap Some (past_is_session (log_of s) c pages)
          ∙ sym (opened s c (taking_pages (entries_of pages) c) pages_left (pages_record s c pages) is refl before))
      | PassesPages finds ↦
          subst (LeavesSession s) (sym (at_left s c pages_left finds.left ∙ ap (with_pages s c) finds.found))
          (ap (λ n. Some (view (in_txns n))) (sym (first_txn s c fit is finds.left))
          ∙ sym (ap (option_map (session_of (log_of s) txns_left)) is))
      | TakesTxn t finds ↦
          subst (LeavesSession s) (sym (at_left s c txns_left finds.left ∙ ap (with_txn s c) finds.found))
          (ap (λ n. Some (view (in_txns n))) (sym (cursor_after_txn c t))
          ∙ sym (opened s c (taking_txn t c) txns_left (txn_entry s c t) is refl before))
      | PassesTxns finds ↦
          subst (LeavesSession s) (sym (at_left s c txns_left finds.left ∙ ap (with_txn s c) finds.found))
          (sym (ap (option_map (session_of (log_of s) none_left)) is))
      | WasDone left ↦
          subst (LeavesSession s) (sym (at_left s c none_left left)) (sym (ap (option_map (session_of (log_of s) none_left)) is))
    ]

-- the record of a step changes no page
no_change : (s : EngineState) → refusal s event.CkptGather ≡ None → (next : Option Record) → gathered_record s ≡ next
    → IfSome next (λ r. change_of r ≡ None)
no_change s none None made = tt
no_change s none (Some r) made =
    gather_record_has (λ r. change_of r ≡ None) s r none made (λ c pages is finds. refl) (λ c t is finds. refl)

-- the state after a step
gathered_state : {S D : Type 0} (stored : S → List Page) (it new : WrittenLog D) (pool : PoolView S)
    (ckpts after : MediaView) (next : Option Record) (v : CkptView Phase)
    → IfSome next (λ r. change_of r ≡ None) → new.log ≡ with_step it.log next
    → new.forced_end ≡ it.forced_end → after ≡ record ckpts { session = Some v }
    → (engine_view stored new pool after).state
    ≡ (gather_effect (engine_view stored it pool ckpts).state (record { next = next; ckpt = v })).state
gathered_state stored it new pool ckpts after None v none logged forced is = rw (is, logged, forced) refl
gathered_state stored it new pool ckpts after (Some r) v none logged forced is =
    rw (is, logged, forced, none_changes r pool.resident none) refl

-- the open checkpoint is the one of the session
session_is : {S : Type 0} (stored : S → List Page) (s : EngineState) (table : Table) (pool : PoolView S)
    (ckpts : MediaView) (c : Checkpoint) (v : CkptView Phase) → IsConsistent stored s table pool ckpts
    → open_checkpoint s.log ≡ Some c → ckpts.session ≡ Some v → v ≡ session_of (log_of s) s.left c
session_is stored s table pool ckpts c v kept is has =
    same_Some _ _ (sym has ∙ kept.session_of_log ∙ ap (option_map (session_of (log_of s) s.left)) is)

-- what the engine knows of its session
pub session_covered : {S : Type 0} (stored : S → List Page) (s : EngineState) (table : Table) (pool : PoolView S)
    (ckpts : MediaView) (v : CkptView Phase) → IsConsistent stored s table pool ckpts → ckpts.session ≡ Some v
    → IsCkptOf (log_of s) v × AreCovered s.log s.stored v
session_covered stored s table pool ckpts v kept has = by_open (open_checkpoint s.log) refl
  where
    by_open : (o : Option Checkpoint) → open_checkpoint s.log ≡ o → IsCkptOf (log_of s) v × AreCovered s.log s.stored v
    by_open None is =
        absurd (none_is_not_some (sym (kept.session_of_log ∙ ap (option_map (session_of (log_of s) s.left)) is) ∙ has))
    by_open (Some c) is =
        let same = session_is stored s table pool ckpts c v kept is has in
        let now = gathering_of s c s.left kept.fit is refl in
        (subst (IsCkptOf (log_of s)) (sym same) now.ckpt, subst (AreCovered s.log s.stored) (sym same) now.covered)

-- the pages behind the volume are covered too
pub whole_covered : {S : Type 0} (stored : S → List Page) (log : Log) (pool : PoolView S) (v : CkptView Phase)
    → IsPoolOf stored log pool → length pool.states ≤ length (stored pool.store)
    → AreCovered log.records (take (length pool.states) (stored pool.store)) v
    → AreCovered log.records (stored pool.store) v
whole_covered stored log pool v is enough covered =
    let first = take (length pool.states) (stored pool.store) in
    let grown = behind_volume stored log pool is enough in
    subst (λ (ps : List Page). AreCovered log.records ps v) (sym grown.1)
    (behind_grown log first grown.0 is.valid
    (omega (arith, is.pages, length-take (length pool.states) (stored pool.store))) v covered)

gathered_kept : {S D : Type 0} (stored : S → List Page) (it new : WrittenLog D) (table : Table) (pool : PoolView S)
    (ckpts after : MediaView) (reply : Result Answer Refusal) (next : Option Record)
    → IsConsistent stored (engine_view stored it pool ckpts).state table pool ckpts
    → refusal (engine_view stored it pool ckpts).state event.CkptGather ≡ None
    → Step (engine_view stored it pool ckpts).state event.CkptGather reply (engine_view stored new pool after).state
    → gathered_record (engine_view stored it pool ckpts).state ≡ next → new.log ≡ with_step it.log next
    → HasSession new.log after.session → after.returns ≡ ckpts.returns
    → CkptCalled stored it new table pool ckpts after event.CkptGather reply
gathered_kept stored it new table pool ckpts after reply None kept none step made logged session alike =
    let s = (engine_view stored it pool ckpts).state in
    record {
      step = step;
      kept = record {
        fit = fit_of_step s event.CkptGather reply (engine_view stored new pool after).state kept.fit tt step;
        table_of_log = rw logged kept.table_of_log;
        pool_of_log = rw logged kept.pool_of_log;
        session_of_log = session;
        returns_of_log = rw logged (subst (HasReturns it.log.records) (sym alike) kept.returns_of_log);
      };
    }
gathered_kept stored it new table pool ckpts after reply (Some r) kept none step made logged session alike =
    let s = (engine_view stored it pool ckpts).state in
    let room = (gather_passes s none).room r made in
    with_record stored it new table pool ckpts after event.CkptGather reply r kept tt step logged
    (gather_record_has IsOfCheckpoint s r none made (λ c pages is finds. tt) (λ c t is finds. tt))
    (follows s event.CkptGather r kept.fit none made) (omega arith) session alike

pub ckpt_gathered : {S D : Type 0} (stored : S → List Page) (it new : WrittenLog D) (table : Table) (pool : PoolView S)
    (ckpts after : MediaView) (v w : CkptView Phase) (reply : Answer)
    → IsConsistent stored (engine_view stored it pool ckpts).state table pool ckpts
    → refusal (engine_view stored it pool ckpts).state event.CkptGather ≡ None → ckpts.session ≡ Some v
    → new.log ≡ with_step it.log (gather_step it.log.records (written_of pool.states) v).next
    → new.forced_end ≡ it.forced_end → after ≡ record ckpts { session = Some w }
    → w ≡ (gather_step it.log.records (written_of pool.states) v).ckpt
    → reply ≡ (if is_done (left_of w.phase) then answer.Done else answer.More)
    → CkptCalled stored it new table pool ckpts after event.CkptGather (Ok reply)
ckpt_gathered stored it new table pool ckpts after v w reply kept none has logged forced is left said =
    let s = (engine_view stored it pool ckpts).state in
    let passes = gather_passes s none in
    let c = passes.ckpt in
    let g = next_step s c in
    let same : gather_step it.log.records (written_of pool.states) v ≡ g =
    ap (gather_step it.log.records (written_of pool.states))
    (session_is stored s table pool ckpts c v kept passes.still_open has) in
    let next : new.log ≡ with_step it.log g.next = logged ∙ ap (λ (x : Gathering). with_step it.log x.next) same in
    let ckpt : w ≡ g.ckpt = left ∙ ap (λ (x : Gathering). x.ckpt) same in
    let now : after ≡ record ckpts { session = Some g.ckpt } = is ∙ ap (λ x. record ckpts { session = Some x }) ckpt in
    let outcome : effect s event.CkptGather ≡ gather_effect s g =
    ap (λ o. option_map_or (λ x. gather_effect s (next_step s x)) o
    (record { answer = answer.Done; state = s })) passes.still_open in
    let made : gathered_record s
    ≡ g.next = ap (λ o. option_map_or (λ x. (next_step s x).next) o None) passes.still_open in
    let state : (engine_view stored new pool after).state ≡ (effect s event.CkptGather).state =
    gathered_state stored it new pool ckpts after g.next g.ckpt (no_change s none g.next made) next forced now ∙ ap (λ o. o.state) (sym outcome) in
    let answered : reply ≡ (effect s event.CkptGather).answer =
    said ∙ ap (λ (x : CkptView Phase). if is_done (left_of x.phase) then answer.Done else answer.More) ckpt
    ∙ ap (λ o. o.answer) (sym outcome) in
    gathered_kept stored it new table pool ckpts after (Ok reply) g.next kept none (none, answered, state) made next
    (rw (now, next) (session_after s c kept.fit passes.still_open)) (ap (λ (x : MediaView). x.returns) is)

-- where the session's step appends a record, so does the engine's
pub gather_takes : {S D : Type 0} (stored : S → List Page) (it : WrittenLog D) (table : Table) (pool : PoolView S)
    (ckpts : MediaView) (v : CkptView Phase) → IsConsistent stored (engine_view stored it pool ckpts).state table pool ckpts
    → refusal (engine_view stored it pool ckpts).state event.CkptGather ≡ None → ckpts.session ≡ Some v
    → IsSome (gather_step it.log.records (written_of pool.states) v).next
    → TakesMemory (engine_view stored it pool ckpts).state event.CkptGather
gather_takes stored it table pool ckpts v kept none has appends =
    let s = (engine_view stored it pool ckpts).state in
    let passes = gather_passes s none in
    let c = passes.ckpt in
    let same : gather_step it.log.records (written_of pool.states) v ≡ next_step s c =
    ap (gather_step it.log.records (written_of pool.states))
    (session_is stored s table pool ckpts c v kept passes.still_open has) in
    let made : gathered_record s
    ≡ (next_step s c).next = ap (λ o. option_map_or (λ x. (next_step s x).next) o None) passes.still_open in
    subst (λ (o : Option Record). IsSome o) (ap (λ (x : Gathering). x.next) same ∙ sym made) appends

-- ---- it ends

pub ckpt_ended : {S D : Type 0} (stored : S → List Page) (it new : WrittenLog D) (table : Table) (pool : PoolView S)
    (ckpts after : MediaView) (v : CkptView Phase) (point : Point)
    → IsConsistent stored (engine_view stored it pool ckpts).state table pool ckpts
    → refusal (engine_view stored it pool ckpts).state event.CkptEnd ≡ None → ckpts.session ≡ Some v
    → new.log ≡ with_next it.log (end_record it.log.records v ∷ []) → new.forced_end ≡ end_of new.log.records
    → after ≡ record ckpts { master = Some point; session = None }
    → point ≡ record { begin = v.begin; end = end_of it.log.records; redo = v.redo; pages = v.pages }
    → CkptCalled stored it new table pool ckpts after event.CkptEnd (Ok (answer.Point point.begin point.end point.redo))
ckpt_ended stored it new table pool ckpts after v point kept none has logged forced is at =
    let s = (engine_view stored it pool ckpts).state in
    let passes = ckpt_end_passes s none in
    let c = passes.ckpt in
    let r = end_ckpt_record s c in
    let same = session_is stored s table pool ckpts c v kept passes.still_open has in
    let next : new.log ≡ with_next it.log (r ∷ []) =
    logged ∙ ap (λ (x : CkptView Phase). with_next it.log (end_record it.log.records x ∷ [])) same in
    let named : point ≡ point_of s c =
    at ∙ ap (λ (x : CkptView Phase). record { begin = x.begin; end = end_of it.log.records; redo = x.redo; pages = x.pages }) same in
    let ends : new.forced_end ≡ end_of (it.log.records ++ r ∷ []) = forced ∙ ap (λ (l : Log). end_of l.records) next in
    let outcome = ckpt_end_is s c passes.still_open in
    let state : (engine_view stored new pool after).state ≡ (effect s event.CkptEnd).state =
    rw (outcome, is, next, ends, named, none_changes r pool.resident refl) refl in
    let answered : answer.Point point.begin point.end point.redo ≡ (effect s event.CkptEnd).answer =
    rw (outcome, named) refl in
    let room = passes.room in
    with_record stored it new table pool ckpts after event.CkptEnd
    (Ok (answer.Point point.begin point.end point.redo)) r
    kept tt (none, answered, state) next tt (end_ckpt_follows s c kept.fit passes.still_open passes.done) (omega arith)
    (rw (is, next) (ap (option_map (session_of (with_next it.log (r ∷ [])) pages_left)) (sym (open_push it.log.records r))))
    (ap (λ (x : MediaView). x.returns) is)

-- the log's device failed
pub ckpt_unforced : {S D : Type 0} (stored : S → List Page) (it new : WrittenLog D) (table : Table) (pool : PoolView S)
    (ckpts after : MediaView) (v : CkptView Phase)
    → IsConsistent stored (engine_view stored it pool ckpts).state table pool ckpts
    → refusal (engine_view stored it pool ckpts).state event.CkptEnd ≡ None → ckpts.session ≡ Some v
    → IsUnforced it new (end_record it.log.records v) → after ≡ record ckpts { session = None }
    → CkptCalled stored it new table pool ckpts after event.CkptEnd (Err LogFault)
ckpt_unforced stored it new table pool ckpts after v kept none has failed is =
    let s = (engine_view stored it pool ckpts).state in
    let passes = ckpt_end_passes s none in
    let c = passes.ckpt in
    let r = end_ckpt_record s c in
    let same = session_is stored s table pool ckpts c v kept passes.still_open has in
    let next : new.log ≡ with_next it.log (r ∷ []) =
    failed.logged ∙ ap (λ (x : CkptView Phase). with_next it.log (end_record it.log.records x ∷ [])) same in
    let k = failed.at_record.0 in
    let at : new.forced_end ≡ lsn_of k = failed.at_record.2 in
    let short = failed.short in
    let longer = ap (λ (l : Log). length l.records) next in
    let state : (engine_view stored new pool after).state
    ≡ forced_to (closed s c) (lsn_of k) = rw (is, next, at, none_changes r pool.resident refl) refl in
    let part : ForcedPart (end (closed s c)) (closed s c) (engine_view stored new pool after).state = record {
      reached = (k, omega (arith, at, short, longer), state);
      no_less = failed.rising;
    } in
    let fails : Fails s event.CkptEnd LogFault (engine_view stored new pool after).state =
    subst (λ (o : Option Checkpoint). IsSomeAnd o (λ x. ForcedPart (end (closed s x)) (closed s x)
    (engine_view stored new pool after).state)) (sym passes.still_open) part in
    let room = passes.room in
    with_record stored it new table pool ckpts after event.CkptEnd (Err LogFault) r kept tt (inr (none, fails)) next tt
    (end_ckpt_follows s c kept.fit passes.still_open passes.done) (omega arith)
    (rw (is, next) (ap (option_map (session_of (with_next it.log (r ∷ [])) pages_left)) (sym (open_push it.log.records r))))
    (ap (λ (x : MediaView). x.returns) is)

-- ---- nothing has changed

pub ckpt_same : {S D : Type 0} (stored : S → List Page) (it new : WrittenLog D) (table : Table) (pool : PoolView S)
    (ckpts after : MediaView) (call : Event) (why : Refusal)
    → IsConsistent stored (engine_view stored it pool ckpts).state table pool ckpts
    → refusal (engine_view stored it pool ckpts).state call ≡ None
    → TakesMemory (engine_view stored it pool ckpts).state call → why ≡ OutOfMemory
    → new.log ≡ it.log → new.forced_end ≡ it.forced_end → after ≡ ckpts
    → CkptCalled stored it new table pool ckpts after call (Err why)
ckpt_same stored it new table pool ckpts after call why kept none takes is same forced alike =
    let state : (engine_view stored new pool after).state ≡ (engine_view stored it pool ckpts).state =
    rw (alike, same, forced) refl in
    record {
      step = rw is (inr (none, (takes, state)));
      kept = rw (state, alike) kept;
    }
