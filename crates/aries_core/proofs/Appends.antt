-- An engine whose log, table and pool are in step, and the record of an accepted call.
use Rattle.std.proofs.Common.{◌≡◌, ◌<◌, length, ℕ, ◌++◌, ◌∷◌, [], List, map, refl, sym, ap, subst, ◌∙◌}
use Rattle.std.specs.Prelude.{IfSome, None, Option, Some}
use Rattle.std.specs.Option.{option_map}
use Rattle.page_core.specs.declared.page.Page.{Page}
use Rattle.buffer_pool.specs.Frames.{IsResident}
use Rattle.std.proofs.lemmas.List.{length-map}
use Rattle.buffer_pool.specs.Pool.{IsPoolOf, PageState, PoolView, writing_of, written_of}
use Rattle.log_records.specs.declared.record.Record.{Record}
use Rattle.log_records.specs.Image.{with_record}
use Rattle.log_records.specs.Log.{IsLog, Log, with_next}
use Rattle.log_records.specs.Record.{change_of}
use Rattle.log_rules.proofs.Public.{valid_next}
use Rattle.log_records.proofs.Public.{transaction_gives_none}
use Rattle.log_records.proofs.Public.{more-none}
use Rattle.log_rules.specs.Checkpoint.{Checkpoint, open_checkpoint}
use Rattle.engine_rules.specs.Gather.{Left}
use Rattle.engine_rules.proofs.Public.{begun_before, session_same}
use Rattle.log_rules.specs.Table.{Table, table_of}
use Rattle.log_store.specs.WrittenLog.{WrittenLog}
use Rattle.fuzzy_ckpt.proofs.Public.{open_same}
use Rattle.txn_table.specs.declared.returns.Return.{Return}
use Rattle.txn_table.specs.Returns.{HasReturns}
use Rattle.engine_rules.specs.EngineState.{EngineState, IsFit, with_appended, log_of}
use Rattle.engine_rules.specs.EngineView.{IsConsistent, MediaView, engine_view}
use Rattle.engine_rules.specs.EngineState.{with_page}
use Rattle.engine_rules.specs.EngineState.{volume_pages}
use Rattle.log_records.specs.declared.page_change.PageChange.{PageChange}
use Rattle.engine_rules.specs.Gather.{session_of}
use Rattle.engine_rules.proofs.Public.{Comes, comes_few, comes_with, fit_appended}
use Rattle.engine_rules.proofs.Public.{fetched_fit, page_comes}

-- the log with it
pub valid_with : (s : EngineState) (r : Record) → IsFit s → Comes s r → IsLog (with_next (log_of s) (r ∷ []))
valid_with s r fit come =
    valid_next (log_of s) r fit.valid (comes_few s r come) come.stands_at
    (more-none _ r (transaction_gives_none r come.of_transaction))

-- the session of the open checkpoint stays, where the record leaves that as it is
pub session_later : (s : EngineState) (r : Record) (left : Left) → IsFit s
    → open_checkpoint (s.log ++ r ∷ []) ≡ open_checkpoint s.log
    → option_map (session_of (with_next (log_of s) (r ∷ [])) left) (open_checkpoint (s.log ++ r ∷ []))
    ≡ option_map (session_of (log_of s) left) (open_checkpoint s.log)
session_later s r left fit same =
    ap (option_map (session_of (with_next (log_of s) (r ∷ [])) left)) same
    ∙ by_open (open_checkpoint s.log) refl
  where
    by_open : (o : Option Checkpoint) → open_checkpoint s.log ≡ o
        → option_map (session_of (with_next (log_of s) (r ∷ [])) left) o ≡ option_map (session_of (log_of s) left) o
    by_open None is = refl
    by_open (Some c) is = ap Some (session_same (log_of s) r left c (begun_before s c fit is))

-- the engine after it
pub kept_next : {S : Type 0} (stored : S → List Page) (s : EngineState) (old new : Table) (pool after : PoolView S)
    (ckpts : MediaView) (returns : List Return) (r : Record) → IsConsistent stored s old pool ckpts → Comes s r
    → IfSome (change_of r) (λ c. IsResident s.resident c.page) → new ≡ table_of (s.log ++ r ∷ [])
    → IsPoolOf stored (with_next (log_of s) (r ∷ [])) after → HasReturns (s.log ++ r ∷ []) returns
    → IsConsistent stored (with_appended s r) new after (record ckpts { returns = returns })
kept_next stored s old new pool after ckpts returns r kept come there noted changed back =
    let fit = fit_appended s r kept.fit come there in
    record {
      fit = fit;
      table_of_log = record { linked = fit.linked; few = fit.valid.count; made = noted };
      pool_of_log = changed;
      session_of_log = kept.session_of_log
          ∙ sym (session_later s r s.left kept.fit (open_same s.log r come.of_transaction));
      returns_of_log = back;
    }

-- the state by the log that is written and the pool
pub appended_is : {S D : Type 0} (stored : S → List Page) (old mid new : WrittenLog D) (pool after : PoolView S)
    (ckpts : MediaView) (r : Record) → mid.log ≡ old.log → mid.forced_end ≡ old.forced_end
    → new.log ≡ with_next mid.log (r ∷ [])
    → new.forced_end ≡ mid.forced_end → stored after.store ≡ stored pool.store → after.frames ≡ pool.frames
    → after.resident ≡ map (λ page. with_record page r) pool.resident
    → written_of after.states ≡ written_of pool.states → writing_of after.states ≡ writing_of pool.states
    → (engine_view stored new after ckpts).state ≡ with_appended (engine_view stored old pool ckpts).state r
appended_is stored old mid new pool after ckpts r same same_end next next_end store frames resident written writing =
    let count : length after.states ≡ length pool.states =
    sym (length-map after.states (λ (s : PageState). s.written)) ∙ ap length written
    ∙ length-map pool.states (λ (s : PageState). s.written) in
    rw (
      count,
      next ∙ ap (λ (l : Log). with_next l (r ∷ [])) same,
      next_end ∙ same_end,
      store,
      frames,
      resident,
      written,
      writing,
    )
    refl

-- ---- the record's page comes in first

pub after_fetch : {S : Type 0} (stored : S → List Page) (s came new : EngineState) (p : ℕ) (old table : Table)
    (pool fetched after : PoolView S) (ckpts : MediaView) (returns : List Return) (r : Record)
    → IsConsistent stored s old pool ckpts → Comes s r
    → p < volume_pages s → IfSome (change_of r) (λ c. c.page ≡ p) → came ≡ with_page s p → IsPoolOf stored (log_of s) fetched
    → table ≡ table_of (s.log ++ r ∷ []) → IsPoolOf stored (with_next (log_of s) (r ∷ [])) after
    → HasReturns (s.log ++ r ∷ []) returns
    → new ≡ with_appended came r → IsConsistent stored new table after (record ckpts { returns = returns })
after_fetch stored s came new p old table pool fetched after ckpts returns r kept come within changes is of_log noted
    changed back next =
    subst (λ (t : EngineState). IsConsistent stored t table after (record ckpts { returns = returns }))
    (sym (next ∙ ap (λ (t : EngineState). with_appended t r) is))
    (kept_next stored (with_page s p) old table fetched after ckpts returns r (record {
      fit = fetched_fit s p kept.fit within;
      table_of_log = kept.table_of_log;
      pool_of_log = of_log;
      session_of_log = kept.session_of_log;
      returns_of_log = kept.returns_of_log;
    }) (comes_with s p r come) (there (change_of r) changes) noted changed back)
  where
    there : (o : Option PageChange) → IfSome o (λ c. c.page ≡ p) → IfSome o (λ c. IsResident (with_page s p).resident c.page)
    there None same = tt
    there (Some c) same = subst (IsResident (with_page s p).resident) (sym same) (page_comes s p kept.fit within)
