-- What a call under the lock tells once it is free.
use Rattle.std.proofs.Common.{ℕ, ◌≡◌, ◌<◌, ◌++◌, ◌∷◌, [], ap, arith, length, refl, subst, sym, ◌∙◌}
use Rattle.std.specs.Prelude.{IfOk, Result, Ok, Err, IsSomeAnd, Option, Some, slice_get}
use Rattle.std.proofs.lemmas.List.{get_or_push, length_push}
use Rattle.std.proofs.lemmas.Option.{slice_get-get_or}
use Rattle.log_records.specs.declared.record.Record.{Record}
use Rattle.log_records.specs.Log.{lsn_of}
use Rattle.log_store.specs.WrittenLog.{IsWritten}
use Rattle.log_store.specs.declared.device.LogDevice as device
use Rattle.page_store.specs.Store.{IsGrown}
use Rattle.page_store.specs.declared.store.PageStore as store
use Rattle.copy_vault.specs.declared.copy_id.CopyKind.{CopyKind}
use Rattle.copy_vault.specs.Vault.{pages_read, state_of}
use Rattle.settlement.specs.Receipt.{HasAt, IsStepOf}
use Rattle.settlement.specs.declared.receipt.TxnStep.TheVariants as step
use Rattle.engine_calls.specs.declared.event.Answer.{Answer}
use Rattle.engine_calls.specs.declared.event.Answer.TheVariants as answer
use Rattle.engine_calls.specs.declared.event.Event.{Event}
use Rattle.engine_calls.specs.declared.event.Event.TheVariants as event
use Rattle.engine_calls.specs.declared.refusal.Refusal.{Refusal}
use Rattle.engine_rules.specs.Asked.{asked}
use Rattle.engine_rules.specs.EngineState.{EngineState, IsFit, commit_record, end, volume_pages}
use Rattle.engine_rules.specs.EngineView.{EngineView}
use Rattle.engine_rules.specs.Step.{Step, reply_of, written_log_of}
use Rattle.engine_rules.specs.Uses.{AsksStore, ForcesDevice}
use Rattle.engine_run.specs.Flushed.{RepliesOf}
use Rattle.engine_run.specs.Replies.{ForcesCommit, MadeOn, ReadsAt, RepliesBy}
use Rattle.engine_run.specs.Work.{OpensCopy, copy_event}

module _ {S D T : Type 0} (pages : store.Ghosts S) (log : device.Ghosts D) (old new : EngineView S D) (event : Event)
    (answered : T → Answer) where
  asks : (result : Result T Refusal)
      → AsksStore pages.gave pages.wrote pages.grew pages.failures (asked old.state event) old result new
      → AsksStore pages.gave pages.wrote pages.grew pages.failures (asked old.state event) old (reply_of answered result) new
  asks (Ok value) uses = record {
    asked = uses.asked;
    failed = tt;
    refused = tt;
    no_failure = uses.no_failure;
    cause = tt;
  }
  asks (Err why) uses = record {
    asked = tt;
    failed = uses.failed;
    refused = uses.refused;
    no_failure = tt;
    cause = uses.cause;
  }

  forces : (result : Result T Refusal)
      → ForcesDevice log.called log.synced log.failures log.fails_from old result new
      → ForcesDevice log.called log.synced log.failures log.fails_from old (reply_of answered result) new
  forces (Ok value) uses = record {
    called = uses.called;
    forced_first = tt;
    last_call = tt;
    refused = tt;
    no_failure = uses.no_failure;
    sound = tt;
    cause = tt;
    same_bound = uses.same_bound;
    past_bound = tt;
  }
  forces (Err why) uses = record {
    called = tt;
    forced_first = uses.forced_first;
    last_call = uses.last_call;
    refused = uses.refused;
    no_failure = tt;
    sound = uses.sound;
    cause = uses.cause;
    same_bound = uses.same_bound;
    past_bound = uses.past_bound;
  }

  -- the whole contract of a call, of an engine that was fit
  pub replied : (result : Result T Refusal) → IsFit old.state
      → Step old.state event (reply_of answered result) new.state
      → AsksStore pages.gave pages.wrote pages.grew pages.failures (asked old.state event) old result new
      → ForcesDevice log.called log.synced log.failures log.fails_from old result new
      → IsGrown new.state.stored (pages.stored new.store) → IsWritten log.bytes (written_log_of new)
      → RepliesBy (MadeOn pages log) event (reply_of answered result)
  replied result fit step uses ends stored written = record {
    engine = record { before = old.state; after = new.state; fit = fit; step = step };
    made = record {
      old = old;
      new = new;
      old_is = refl;
      new_is = refl;
      asks = asks result uses;
      forces = forces result ends;
      stored = stored;
      written = written;
    };
  }

-- ---- the page count after a call

module _ {S D T : Type 0} (pages : store.Ghosts S) (log : device.Ghosts D) (old new : EngineView S D) (event : Event)
    (answered : T → Answer) where
  pub replied_of : (result : Result T Refusal) (count : ℕ) → IsFit old.state
      → Step old.state event (reply_of answered result) new.state
      → AsksStore pages.gave pages.wrote pages.grew pages.failures (asked old.state event) old result new
      → ForcesDevice log.called log.synced log.failures log.fails_from old result new
      → IsGrown new.state.stored (pages.stored new.store) → IsWritten log.bytes (written_log_of new)
      → volume_pages new.state ≡ count → RepliesOf (MadeOn pages log) event (reply_of answered result) count
  unfolding replied
  replied_of result count fit step uses ends stored written is = record {
    reply = replied pages log old new event answered result fit step uses ends stored written;
    count = is;
  }

-- ---- a commit that is answered is forced

-- the Commit comes behind the log
has_commit : (old : EngineState) (txn : ℕ) → HasAt (old.log ++ commit_record old txn ∷ []) (end old) (IsStepOf txn step.Commit)
has_commit old txn =
    let r = commit_record old txn in
    let i = length old.log in
    let there : slice_get (old.log ++ r ∷ []) i ≡ Some r =
    slice_get-get_or (old.log ++ r ∷ []) i r (omega (arith, length_push old.log r))
    ∙ ap (λ (x : Record). Some x) (get_or_push old.log r r i refl) in
    (i, refl, subst (λ (o : Option Record). IsSomeAnd o (IsStepOf txn step.Commit)) (sym there) (refl, refl))

-- once a commit is answered, its Commit is there, and forced
is_forced : (old new : EngineState) (txn lsn : ℕ) → Step old (event.Commit txn) (Ok (answer.Logged lsn)) new
    → HasAt new.log lsn (IsStepOf txn step.Commit) × (lsn < new.forced_end)
is_forced old new txn lsn step =
    let r = commit_record old txn in
    let at : lsn ≡ end old = let same = step.1 in cc in
    let is : new.log ≡ old.log ++ r ∷ [] = ap (λ (s : EngineState). s.log) step.2 in
    let ends : new.forced_end ≡ lsn_of (length (old.log ++ r ∷ [])) = ap (λ (s : EngineState). s.forced_end) step.2 in
    (rw (at, is) (has_commit old txn), omega (arith, at, ends, length_push old.log r))

module _ {S D : Type 0} (pages : store.Ghosts S) (log : device.Ghosts D) (old new : EngineView S D) (txn : ℕ) where
  pub forces_commit : (result : Result ℕ Refusal) → IsFit old.state
      → Step old.state (event.Commit txn) (reply_of answer.Logged result) new.state
      → AsksStore pages.gave pages.wrote pages.grew pages.failures (asked old.state (event.Commit txn)) old result new
      → ForcesDevice log.called log.synced log.failures log.fails_from old result new
      → IsGrown new.state.stored (pages.stored new.store) → IsWritten log.bytes (written_log_of new)
      → IfOk result (ForcesCommit (MadeOn pages log) txn)
  unfolding replied
  forces_commit (Err why) fit step uses ends stored written = tt
  forces_commit (Ok lsn) fit step uses ends stored written =
      let both = is_forced old.state new.state txn lsn step in
      record {
        reply = replied pages log old new (event.Commit txn) answer.Logged (Ok lsn) fit step uses ends stored written;
        there = both.0;
        forced = both.1;
      }

-- ---- a read, and where the log ended then

module _ {S D : Type 0} (pages : store.Ghosts S) (log : device.Ghosts D) (old new : EngineView S D) (page slot lsn number : ℕ)
  where
    pub reads_at : IsFit old.state → Step old.state (event.Read page slot) (Ok (answer.Number number)) new.state
        → AsksStore pages.gave pages.wrote pages.grew pages.failures (asked old.state (event.Read page slot)) old (Ok number) new
        → ForcesDevice log.called log.synced log.failures log.fails_from old (Ok number) new
        → IsGrown new.state.stored (pages.stored new.store) → IsWritten log.bytes (written_log_of new)
        → lsn ≡ end old.state → ReadsAt (MadeOn pages log) page slot lsn number
    unfolding replied
    reads_at fit step uses ends stored written at = record {
      reply = replied pages log old new (event.Read page slot) answer.Number (Ok number) fit step uses ends stored written;
      ended = sym at;
    }

-- ---- a copy begins, and its pages are counted

module _ {S D : Type 0} (pages : store.Ghosts S) (log : device.Ghosts D) (old new : EngineView S D) where
  pub opens_copy : (kind : CopyKind) (id count : ℕ) → IsFit old.state
      → Step old.state (copy_event kind) (Ok (answer.Copied id)) new.state
      → AsksStore pages.gave pages.wrote pages.grew pages.failures (asked old.state (copy_event kind)) old (Ok id) new
      → ForcesDevice log.called log.synced log.failures log.fails_from old (Ok id) new
      → IsGrown new.state.stored (pages.stored new.store) → IsWritten log.bytes (written_log_of new)
      → count ≡ length (pages_read (state_of new.state.copies id)) → OpensCopy (MadeOn pages log) kind id count
  unfolding replied
  opens_copy kind id count fit step uses ends stored written is = record {
    reply = replied pages log old new (copy_event kind) answer.Copied (Ok id) fit step uses ends stored written;
    count = is;
  }
