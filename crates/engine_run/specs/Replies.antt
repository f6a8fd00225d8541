-- What is known of a call of a shared engine once its lock is free.
use Rattle.std.specs.Prelude.{ℕ, ◌≡◌, ◌<◌, ◌⊎◌, Result, Ok, Err}
use Rattle.log_store.specs.WrittenLog.{IsWritten}
use Rattle.log_store.specs.declared.device.LogDevice as device
use Rattle.page_store.specs.Store.{IsGrown}
use Rattle.page_store.specs.declared.store.PageStore as store
use Rattle.settlement.specs.Receipt.{HasAt, IsStepOf}
use Rattle.settlement.specs.declared.receipt.TxnStep.TheVariants as step
use Rattle.engine_calls.specs.declared.event.Answer.{Answer}
use Rattle.engine_calls.specs.declared.event.Answer.TheVariants as answer
use Rattle.engine_calls.specs.declared.event.Event.{Event}
use Rattle.engine_calls.specs.declared.event.Event.TheVariants as event
use Rattle.engine_calls.specs.declared.refusal.Refusal.{Refusal}
use Rattle.engine_calls.specs.declared.refusal.Refusal.TheVariants.{OutOfMemory}
use Rattle.engine_rules.specs.Asked.{asked}
use Rattle.engine_rules.specs.EngineState.{EngineState, IsFit, end}
use Rattle.engine_rules.specs.EngineView.{EngineView}
use Rattle.engine_rules.specs.Step.{Step, written_log_of}
use Rattle.engine_rules.specs.Uses.{AsksStore, ForcesDevice}

-- some engine that is fit replies so to an event
pub record Replies (event : Event) (reply : Result Answer Refusal) : Type 0 where
  pub before : EngineState
  pub after : EngineState
  pub fit : IsFit before
  pub step : Step before event reply after

-- what is known of a call of an engine, by its state before it, the event, the reply, and its state
-- after it
abbrev pub EngineCall : Type 1
EngineCall = EngineState → Event → Result Answer Refusal → EngineState → Type 0

-- and it did so by such a call
pub record RepliesBy (call : EngineCall) (event : Event) (reply : Result Answer Refusal) : Type 0 where
  pub engine : Replies event reply
  pub made : call engine.before event reply engine.after

-- the call was made of an engine on such a store and such a device. The store was asked what the
-- call has to ask, the device was called for what it has to force, and the two have what is stored
-- and what is forced after it
pub record MadeOn {S D : Type 0} (pages : store.Ghosts S) (log : device.Ghosts D)
    (before : EngineState) (event : Event) (reply : Result Answer Refusal) (after : EngineState)
    : Type 0 where
  pub old : EngineView S D
  pub new : EngineView S D
  pub old_is : old.state ≡ before
  pub new_is : new.state ≡ after
  pub asks : AsksStore pages.gave pages.wrote pages.grew pages.failures (asked old.state event) old reply
      new
  pub forces : ForcesDevice log.called log.synced log.failures log.fails_from old reply new
  pub stored : IsGrown new.state.stored (pages.stored new.store)
  pub written : IsWritten log.bytes (written_log_of new)

-- what a session is told of a call: want of memory, as where there is no room for its receipt; its
-- share counts what it counted then, so it has appended no record. Or what an engine replies
abbrev pub IsTold : EngineCall → Event → Result Answer Refusal → Type 0
IsTold call event reply = (reply ≡ Err OutOfMemory) ⊎ RepliesBy call event reply

-- an engine replies so to a commit, by such a call: in its log then, the Commit of the transaction
-- stands at this LSN, and it is forced
pub record ForcesCommit (call : EngineCall) (txn lsn : ℕ) : Type 0 where
  pub reply : RepliesBy call (event.Commit txn) (Ok (answer.Logged lsn))
  pub there : HasAt reply.engine.after.log lsn (IsStepOf txn step.Commit)
  pub forced : lsn < reply.engine.after.forced_end

-- an engine replies so to a read, by such a call, and its log ended here then
pub record ReadsAt (call : EngineCall) (page slot lsn number : ℕ) : Type 0 where
  pub reply : RepliesBy call (event.Read page slot) (Ok (answer.Number number))
  pub ended : end reply.engine.before ≡ lsn
