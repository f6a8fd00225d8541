-- The last restore of a script, and what is printed of it.
use Rattle.std.specs.Prelude.{ℕ, ◌≡◌, ◌<◌, List, length, take, Option, Some, None, Result, Ok, Err}
use Rattle.std.specs.Io.KnownBytes.{Appends, Keeps}
use Rattle.log_records.specs.declared.record.Record.{Record}
use Rattle.log_records.specs.Log.{Log}
use Rattle.copy_coverage.specs.Kept.{IsKeptOf}
use Rattle.copy_coverage.specs.Retired.{RetiredView}
use Rattle.loser_undo.specs.Recovery.{Recovery}
use Rattle.media_restore.specs.declared.fault.Refused.{Refused}
use Rattle.media_restore.specs.Fault.{line_of}
use Rattle.media_restore.specs.Load.{kept_log, load_refusal}
use Rattle.media_restore.specs.Rebuild.{IsRestored, RestoreRefuses}
use Rattle.event_script.specs.declared.script.LastRestore.{LastRestore}
use Rattle.script_run.specs.declared.finish_fault.FinishFault.{FinishFault}
use Rattle.script_run.specs.declared.finish_fault.FinishFault.TheVariants as finish
use Rattle.script_run.specs.PageLines.{ended, page_lines}

-- how many records are kept at most: all, where no number is given
abbrev pub cut_of : List Record → Option ℕ → ℕ
cut_of records None = length records
cut_of records (Some cut) = cut

-- the log that a restore keeps of what is left
abbrev pub kept_for : RetiredView → LastRestore → Log
kept_for left last = kept_log left.log (cut_of left.log.records last.cut)

-- what is restored of what is left
pub record IsRestoredOf (left : RetiredView) (last : LastRestore) (volume : Recovery) : Type 0 where
  pub let_in : load_refusal left last.copy (cut_of left.log.records last.cut) ≡ None
  pub master : left.master ≡ Some volume.master
  pub kept : IsKeptOf left.log left.forced_end (kept_for left last)
  pub restored : IsRestored (kept_for left last) volume

-- what comes of a restore: a volume, or why there is none
abbrev pub IsOutcome : RetiredView → LastRestore → Result Recovery Refused → Type 0
IsOutcome left last (Ok volume) = IsRestoredOf left last volume
IsOutcome left last (Err why) =
    RestoreRefuses (load_refusal left last.copy (cut_of left.log.records last.cut)) why

-- a line for each page, or the line of the refusal
abbrev pub outcome_lines : Result Recovery Refused → List ℕ
outcome_lines (Ok volume) = page_lines volume.pages
outcome_lines (Err why) = ended (line_of why)

-- a restore came to an end, and its lines were written; without one, nothing was
abbrev pub Finishes : RetiredView → Option LastRestore → Option (List ℕ) → Option (List ℕ) → Type 0
Finishes left None old new = Keeps old new
Finishes left (Some last) old new =
    (volume : Recovery) × IsOutcome left last (Ok volume)
    × Appends old new (outcome_lines (Ok volume))

-- the first bytes of the lines of a restore were written, so many but not all
pub record FinishesInPart (left : RetiredView) (last : LastRestore) (old new : Option (List ℕ))
    (done : ℕ) : Type 0 where
  pub outcome : Result Recovery Refused
  pub is : IsOutcome left last outcome
  pub within : done < length (outcome_lines outcome)
  pub written : Appends old new (take done (outcome_lines outcome))

-- what stands where a restore came to no end, or its lines are not written
abbrev pub RestoreLeaves : RetiredView → LastRestore → Option (List ℕ) → Option (List ℕ)
    → FinishFault → Type 0
RestoreLeaves left last old new finish.OutOfMemory = Keeps old new
RestoreLeaves left last old new (finish.Refused why) =
    IsOutcome left last (Err why) × Appends old new (outcome_lines (Err why))
RestoreLeaves left last old new (finish.WriteFault done) = FinishesInPart left last old new done

-- without a restore there is no fault
abbrev pub FinishLeaves : RetiredView → Option LastRestore → Option (List ℕ) → Option (List ℕ)
    → FinishFault → Type 0
FinishLeaves left None old new fault = ⊥
FinishLeaves left (Some last) old new fault = RestoreLeaves left last old new fault
