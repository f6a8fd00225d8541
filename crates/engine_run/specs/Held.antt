-- What lies under the lock.
use Rattle.std.specs.Prelude.{ℕ, ◌≡◌}
use Rattle.settlement.specs.Counts.{txn_records_in}
use Rattle.engine_rules.specs.EngineView.{EngineView}

-- the engine, and the total of the book: how many records the sessions' shares count together
pub record HeldView (S D : Type 0) : Type 0 where
  pub engine : EngineView S D
  pub total : ℕ

-- the book counts the records of transactions in the log, each once
abbrev pub IsCounted : {S D : Type 0} → HeldView S D → Type 0
IsCounted it = it.total ≡ txn_records_in it.engine.state.log
