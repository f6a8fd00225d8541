-- What an engine leaves.
use Rattle.std.specs.Prelude.{◌≡◌}
use Rattle.std.specs.Option.{option_map}
use Rattle.copy_coverage.specs.Retired.{RetiredView}
use Rattle.engine_rules.specs.EngineState.{EngineState, log_of, master_record}

-- its log, its last complete checkpoint and its copies, and how far it was forced
pub record IsLeftBy (e : EngineState) (left : RetiredView) : Type 0 where
  pub log : left.log ≡ log_of e
  pub forced_end : left.forced_end ≡ e.forced_end
  pub master : left.master ≡ option_map master_record e.master
  pub copies : left.copies ≡ e.copies
