use Rattle.std.proofs.Common.{ℕ, ◌≡◌, ◌<◌, ◌++◌, List, length, take}
use Rattle.std.specs.List.{All, filter_map}
use Rattle.settlement.specs.Marks.{AreMarked}
use Rattle.engine_run.specs.Given.{AreGiven}
use Rattle.engine_run.specs.Settled.{WorkStands, begin_of, copies_of, evidence}
use Rattle.engine_run.proofs.check_works.check_works.Given as goal

-- what was answered so far stands, and is marked
abbrev pub invariant-loop-work : goal.invariant-loop-work
invariant-loop-work l = record {
  lengths : length l.marks ≡ length l.log.records;
  few : length l.vault.copies < length l.given;
  works : All (WorkStands (evidence l.log l.forced_end l.vault.copies))
      (take l.work-index l.works);
  marked : (lsns : List ℕ) → AreMarked l.initial.marks lsns
      → AreMarked l.marks (lsns ++ filter_map begin_of (take l.work-index l.works));
  given : AreGiven l.given (copies_of (take l.work-index l.works));
}
