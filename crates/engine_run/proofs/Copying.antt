-- The copies of a shared engine, by the calls that make them.
use Rattle.std.proofs.Common.{ℕ, ◌≡◌, ◌+◌, arith, below_more, inl, inr, rules, length, subst}
use Rattle.std.specs.Prelude.{◌⊎◌, Result, Ok, Err, IfErr, IfOk, OnOk}
use Rattle.log_store.specs.WrittenLog.{IsWritten}
use Rattle.log_store.specs.declared.device.LogDevice as device
use Rattle.page_store.specs.Store.{IsGrown}
use Rattle.page_store.specs.declared.store.PageStore as store
use Rattle.copy_vault.specs.declared.copy_id.CopyKind.{CopyKind}
use Rattle.copy_vault.specs.declared.copy_id.CopyKind.TheVariants.{Full, Inc}
use Rattle.copy_vault.specs.Vault.{pages_read, state_of}
use Rattle.engine_calls.specs.declared.event.Answer.TheVariants as answer
use Rattle.engine_calls.specs.declared.event.Event.TheVariants as event
use Rattle.engine_calls.specs.declared.refusal.Refusal.{Refusal}
use Rattle.engine_rules.specs.Asked.{asked}
use Rattle.engine_rules.specs.EngineState.{IsFit}
use Rattle.engine_rules.specs.EngineView.{EngineView}
use Rattle.engine_rules.specs.Step.{Step, reply_of, written_log_of}
use Rattle.engine_rules.specs.Uses.{AsksStore, ForcesDevice}
use Rattle.engine_run.specs.Replies.{EngineCall, MadeOn, RepliesBy}
use Rattle.engine_run.specs.Work.{AreTaken, IsCopiedAlone, IsSealedBy, OpensCopy, RefusesCopying}
use Rattle.engine_run.specs.Work.{RefusesTake, Takes, copy_event}
use Rattle.engine_run.specs.declared.work.Work.{Work}
use Rattle.engine_run.proofs.Replied.{opens_copy, replied}

-- ---- a copy begins, and its pages are counted

module _ {S D : Type 0} (pages : store.Ghosts S) (log : device.Ghosts D) (old new : EngineView S D)
    (same_store : new.store ≡ old.store) (same_device : new.device ≡ old.device) where
  full_asks : (result : Result ℕ Refusal) → Step old.state event.CopyFull (reply_of answer.Copied result) new.state
      → AsksStore pages.gave pages.wrote pages.grew pages.failures (asked old.state event.CopyFull) old result new
  full_asks result step = search rules

  inc_asks : (parent : ℕ) (result : Result ℕ Refusal)
      → Step old.state (event.CopyInc parent) (reply_of answer.Copied result) new.state
      → AsksStore pages.gave pages.wrote pages.grew pages.failures (asked old.state (event.CopyInc parent)) old result new
  inc_asks parent result step = search rules

  full_forces : (result : Result ℕ Refusal) → Step old.state event.CopyFull (reply_of answer.Copied result) new.state
      → ForcesDevice log.called log.synced log.failures log.fails_from old result new
  full_forces result step = search rules

  inc_forces : (parent : ℕ) (result : Result ℕ Refusal)
      → Step old.state (event.CopyInc parent) (reply_of answer.Copied result) new.state
      → ForcesDevice log.called log.synced log.failures log.fails_from old result new
  inc_forces parent result step = search rules

  pub begun : (kind : CopyKind) (result : Result ℕ Refusal) → IsFit old.state
      → Step old.state (copy_event kind) (reply_of answer.Copied result) new.state
      → IsGrown new.state.stored (pages.stored new.store) → IsWritten log.bytes (written_log_of new)
      → RepliesBy (MadeOn pages log) (copy_event kind) (reply_of answer.Copied result)
  begun Full result fit step stored written =
      replied pages log old new event.CopyFull answer.Copied result fit step (full_asks result step)
      (full_forces result step) stored written
  begun (Inc parent) result fit step stored written =
      replied pages log old new (event.CopyInc parent) answer.Copied result fit step (inc_asks parent result step)
      (inc_forces parent result step) stored written

  pub opened : (kind : CopyKind) (id count : ℕ) → IsFit old.state
      → Step old.state (copy_event kind) (Ok (answer.Copied id)) new.state
      → IsGrown new.state.stored (pages.stored new.store) → IsWritten log.bytes (written_log_of new)
      → count ≡ length (pages_read (state_of new.state.copies id)) → OpensCopy (MadeOn pages log) kind id count
  opened Full id count fit step stored written is =
      opens_copy pages log old new Full id count fit step (full_asks (Ok id) step) (full_forces (Ok id) step) stored written is
  opened (Inc parent) id count fit step stored written is =
      opens_copy pages log old new (Inc parent) id count fit step (inc_asks parent (Ok id) step)
      (inc_forces parent (Ok id) step) stored written is

-- ---- pages are taken

-- none yet
pub none_taken : (call : EngineCall) (id : ℕ) → AreTaken call id 0
none_taken call id page before = absurd (omega (arith, before))

-- one page more
pub taken_more : (call : EngineCall) (id count : ℕ) → AreTaken call id count → Takes call id count → AreTaken call id (count + 1)
taken_more call id count so_far here = below_more (λ page. Takes call id page) count so_far here

-- ---- how a copy ends whose pages were taken in order

module _ (call : EngineCall) (kind : CopyKind) (id pages : ℕ) (opens : OpensCopy call kind id pages) where
  pub copied_alone : {T : Type 0} (result : Result Work Refusal) (taken : Result T Refusal)
      → OnOk taken (AreTaken call id pages) → IfErr taken (λ why. result ≡ Err why)
      → IfOk result (IsSealedBy call id kind) → IfOk result (IsCopiedAlone call kind)
  copied_alone (Err why) taken all untaken sealed = tt
  copied_alone (Ok work) (Ok done) all untaken sealed = record {
    copied = record { id = id; pages = pages; opened = opens; sealed = sealed };
    taken = all;
  }
  copied_alone (Ok work) (Err why) all untaken sealed =
      absurd (subst (λ (r : Result Work Refusal). IfErr r (λ other. ⊥)) untaken tt)

  pub copy_refused : {T : Type 0} (result : Result Work Refusal) (taken : Result T Refusal)
      → IfErr taken (RefusesTake call id pages)
      → IfErr result (λ why. (taken ≡ Err why) ⊎ RepliesBy call (event.Seal id) (Err why))
      → IfErr result (RefusesCopying call kind)
  copy_refused (Ok work) taken bad refused = tt
  copy_refused {T} (Err why) taken bad (inl is) =
      inr (id, pages, opens, inl (subst (λ (r : Result T Refusal). IfErr r (RefusesTake call id pages)) is bad))
  copy_refused (Err why) taken bad (inr sealing) = inr (id, pages, opens, inr sealing)
