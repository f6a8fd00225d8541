-- The Commits that were answered, by events and replies alone.
use Rattle.std.specs.Prelude.{ℕ, ◌≡◌, ◌<◌, ◌++◌, List, [], ◌∷◌, length, slice_index_or, Option}
use Rattle.std.specs.Prelude.{Some, None, Result, Ok}
use Rattle.std.specs.Option.{option_to_list}
use Rattle.log_records.specs.declared.record.Record.{Record}
use Rattle.log_records.specs.declared.record.Record.TheVariants as log
use Rattle.log_records.specs.Log.{lsn_of}
use Rattle.engine_calls.specs.declared.event.Answer.{Answer}
use Rattle.engine_calls.specs.declared.event.Answer.TheVariants as answer
use Rattle.engine_calls.specs.declared.event.Event.{Event}
use Rattle.engine_calls.specs.declared.event.Event.TheVariants as event
use Rattle.engine_calls.specs.declared.refusal.Refusal.{Refusal}

-- the transaction that committed, and the LSN that was answered
pub record AnsweredCommit : Type 0 where
  pub txn : ℕ
  pub lsn : ℕ

abbrev pub answered_commit : Event → Result Answer Refusal → Option AnsweredCommit
answered_commit (event.Commit txn) (Ok (answer.Logged lsn)) = Some (record { txn = txn; lsn = lsn })
answered_commit event reply = None

-- those of these events, in order
abbrev pub answered_commits : List Event → List (Result Answer Refusal) → List AnsweredCommit
answered_commits [] replies = []
answered_commits (event ∷ events) [] = []
answered_commits (event ∷ events) (reply ∷ replies) =
    option_to_list (answered_commit event reply) ++ answered_commits events replies

-- the Commit stands in the log at its LSN
pub record StandsIn (rs : List Record) (commit : AnsweredCommit) : Type 0 where
  pub place : ℕ
  pub within : place < length rs
  pub at_lsn : commit.lsn ≡ lsn_of place
  pub prev : ℕ
  pub is : (d : Record) → slice_index_or rs place d ≡ log.Commit commit.lsn commit.txn prev
