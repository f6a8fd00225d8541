-- What an engine leaves is what it kept.
use Rattle.std.proofs.Common.{ℕ, List, refl, ap}
use Rattle.std.specs.Prelude.{Option, Some, None, IfSome, IsSome}
use Rattle.std.specs.Option.{option_map}
use Rattle.page_core.specs.declared.page.Page.{Page}
use Rattle.log_records.specs.Log.{Log}
use Rattle.fuzzy_ckpt.specs.declared.point.Point.{Point}
use Rattle.copy_coverage.specs.Copied.{copy_in}
use Rattle.copy_coverage.specs.Retired.{NamesCheckpoint, IsRetired}
use Rattle.copy_coverage.proofs.Public.{restorable}
use Rattle.engine_rules.specs.EngineState.{EngineState, IsFit, log_of, master_record}
use Rattle.engine_rules.specs.EngineState as engine

named : (log : Log) (stored : List Page) (forced_end : ℕ) (point : Option Point)
    → IfSome point (engine.IsMasterOf log stored forced_end)
    → IfSome (option_map master_record point) (NamesCheckpoint log.records forced_end)
named log stored forced_end None has = tt
named log stored forced_end (Some point) has = record { complete = has.complete; forced = has.forced }

mapped : (point : Option Point) → IsSome point → IsSome (option_map master_record point)
mapped None has = has
mapped (Some point) has = refl

pub left_by : (s : EngineState) → IsFit s → IsRetired (record {
  log = log_of s;
  forced_end = s.forced_end;
  master = option_map master_record s.master;
  copies = s.copies;
})
left_by s fit = record {
  valid = fit.valid;
  linked = fit.linked;
  room = fit.room;
  forced = fit.forced;
  master = named (log_of s) s.stored s.forced_end s.master fit.master;
  copies = restorable (log_of s) s.forced_end s.stored s.copies fit.copied;
  noted = λ id copy is. mapped s.master (fit.noted id copy (ap copy_in is));
}
