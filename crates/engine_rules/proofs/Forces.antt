-- How far the log is forced.
use Rattle.std.proofs.Common.{◌≡◌, ℕ, ◌<◌, ◌≤◌, ◌/◌, min, length, refl, sym, subst, arith, inl, inr}
use Rattle.std.proofs.lemmas.Bool.{cases_lt}
use Rattle.log_records.specs.Log.{lsn_of}
use Rattle.log_store.specs.WrittenLog.{end_up_to}
use Rattle.engine_rules.specs.EngineState.{EngineState, end, forced_through, forced_to, log_of}
use Rattle.engine_rules.specs.Step.{ForcedPart}

-- the forced end is the LSN of a record, or of the log's end
abbrev pub EndsAtRecord : EngineState → Type 0
EndsAtRecord s = (k : ℕ) × (k ≤ length s.log) × (s.forced_end ≡ lsn_of k)

-- the new state's forced end is one, and no less than the old one's
abbrev pub Forces : EngineState → EngineState → Type 0
Forces old new = (ends : EndsAtRecord new) × (old.forced_end ≤ new.forced_end)

-- all of it is forced
pub all_forces : (old : EngineState) → EndsAtRecord old → Forces old (forced_to old (end old))
all_forces old (k, le, e) = ((length old.log, omega arith, refl), omega arith)

-- or a part, where the device failed
pub part_forces : (old new : EngineState) (target : ℕ) → target ≤ end old → ForcedPart target old new → Forces old new
part_forces old new target within part =
    let k = part.reached.0 in
    let lt : k < length old.log = omega (arith, part.reached.1, within) in
    (subst EndsAtRecord (sym part.reached.2) (k, omega arith, refl), part.no_less)

-- up to an LSN, but not past the log's end
pub up_to_is_record : (s : EngineState) (lsn : ℕ) → end_up_to (log_of s) lsn ≤ end s
up_to_is_record s lsn = omega arith

pub through_forces : (old : EngineState) (lsn : ℕ) → EndsAtRecord old → Forces old (forced_through old lsn)
through_forces old lsn (k, le, e) = elim (cases_lt old.forced_end (end_up_to (log_of old) lsn)) [
  | inl lt ↦ ((min (lsn / 64) (length old.log), omega arith, omega arith), omega arith)
  | inr past ↦ ((k, le, omega arith), omega arith)
]
