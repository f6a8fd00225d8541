-- How the run of a program's tasks ends.
use Rattle.std.specs.Prelude.{ℕ, ◌≡◌, ◌<◌, ◌++◌, List, [], length, map, slice_index_or}
use Rattle.std.specs.Prelude.{Option, None, Some, Vec, codes}
use Rattle.std.proofs.Common.{Global}
use Rattle.std.specs.List.{flat_map}
use Rattle.settlement.specs.declared.receipt.Receipt.{Receipt}
use Rattle.copy_coverage.specs.Retired.{RetiredView}
use Rattle.page_core.specs.FaultName.{fault_line}
use Rattle.page_core.specs.declared.fault_name.FaultName.TheVariants as name
use Rattle.engine_calls.specs.Refusal.{line_of_fault}
use Rattle.engine_run.specs.Settled.{IsFaultOf, IsSettled, evidence_in}
use Rattle.engine_run.specs.declared.beginning.Beginning.{Beginning}
use Rattle.engine_run.specs.declared.fault.SettleFault.{SettleFault}
use Rattle.engine_run.specs.declared.fault.SettleFault.TheVariants as settle
use Rattle.engine_run.specs.declared.work.Work.{Work}
use Rattle.imgcopy_engine.specs.declared.run.RunFault.{RunFault}
use Rattle.imgcopy_engine.specs.declared.run.RunFault.TheVariants.{NoEngine, OutOfMemory}
use Rattle.imgcopy_engine.specs.declared.run.RunFault.TheVariants.{TooManyTasks, Unsettled}

-- what a task's work makes of it: the task before, the task after, the receipts of its session, and
-- what its checkpoints and copies were answered
abbrev pub TaskWork : Type 0 → Type 1
TaskWork T = T → T → List Receipt → List Work → Type 0

-- each task has worked: there is a session and a list of works for each, at its place
pub record HaveWorked {T : Type 0} (worked : TaskWork T) (old new : List T)
    (sessions : List (List Receipt)) (works : List (List Work)) : Type 0 where
  pub as_many : length new ≡ length old
  pub a_session_each : length sessions ≡ length old
  pub works_each : length works ≡ length old
  pub each : (i : ℕ) (d : T) → i < length old
      → worked (slice_index_or old i d) (slice_index_or new i d) (slice_index_or sessions i [])
      (slice_index_or works i [])

-- the works of all tasks, one task behind the other
abbrev pub all_works : List (List Work) → List Work
all_works works = flat_map (λ own. own) works

-- what each of them was answered
abbrev pub lists_of : {X : Type 0} → List (Vec X Global) → List (List X)
lists_of lists = map (λ own. own.items) lists

-- the tasks of a run have worked, each with a session that has these receipts, and with these works;
-- and what the run left is settled with just these. This was there before
pub record WasSettled {T : Type 0} (worked : TaskWork T) (began : Beginning) (old new : List T)
    (receipts : List (Vec Receipt Global)) (works : List (Vec Work Global)) (left : RetiredView) : Type 0 where
  pub have_worked : HaveWorked worked old new (lists_of receipts) (lists_of works)
  pub settled : IsSettled began (evidence_in left) (lists_of receipts) (all_works (lists_of works))

-- the tasks have worked, each with these receipts and works; and the fault is what is wrong with
-- these in what the run left
pub record WasRefused {T : Type 0} (worked : TaskWork T) (IsBegan : Beginning → Type 0)
    (fault : RunFault) (old new : List T) (receipts : List (Vec Receipt Global)) (works : List (Vec Work Global))
    (left : RetiredView) : Type 0 where
  pub began : Beginning
  pub is_began : IsBegan began
  pub why : SettleFault
  pub is_why : fault ≡ Unsettled why
  pub have_worked : HaveWorked worked old new (lists_of receipts) (lists_of works)
  pub wrong : IsFaultOf began (evidence_in left) (lists_of receipts) (all_works (lists_of works)) why

-- what was answered is compared, and is wrong somewhere
abbrev pub IsUnsettledAt : RunFault → Type 0
IsUnsettledAt (Unsettled why) = ¬ (why ≡ settle.OutOfMemory)
IsUnsettledAt other = ⊥

-- each task has worked where the run is not settled; at each other fault none of them has. There are
-- too many only if they are more than an engine has sessions
abbrev pub WasTried : {T : Type 0} → TaskWork T → RunFault → List T → List T → Type 0
WasTried worked (Unsettled why) old new =
    (sessions : List (List Receipt)) × (works : List (List Work)) × HaveWorked worked old new sessions works
WasTried worked TooManyTasks old new = (new ≡ old) × (64 < length old)
WasTried worked other old new = new ≡ old

-- there was an engine
abbrev pub IsOfEngine : RunFault → Type 0
IsOfEngine (NoEngine why) = ⊥
IsOfEngine other = Unit {0}

-- what is printed of it. What is said of a run that is not settled is told by no clause
abbrev pub text_of : RunFault → Option (List ℕ)
text_of (NoEngine why) = Some (codes "no engine: " ++ line_of_fault why)
text_of TooManyTasks = Some (codes "more tasks than an engine has sessions")
text_of OutOfMemory = Some (fault_line name.OutOfMemory)
text_of (Unsettled why) = None
