-- What was there before a run.
use Rattle.std.specs.Prelude.{ℕ, ◌≡◌, ◌<◌, ◌≤◌, List, length}
use Rattle.copy_vault.specs.Vault.{CopyState, dropped, state_of}
use Rattle.engine_rules.specs.EngineState.{EngineState}
use Rattle.engine_run.specs.declared.beginning.Beginning.{Beginning}

-- no copy is there whose id is behind this one, which was given, or is 0
pub record IsLastOf (copies : List CopyState) (last : ℕ) : Type 0 where
  pub none_behind : (id : ℕ) → last < id → state_of copies id ≡ dropped
  pub given : last ≤ length copies

-- an engine has so many records, and this is the last copy that it has
pub record IsBeginning (s : EngineState) (began : Beginning) : Type 0 where
  pub records : began.records ≡ length s.log
  pub copies : IsLastOf s.copies began.last_copy
