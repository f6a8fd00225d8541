-- When a run is settled: all that its sessions, checkpoints and copies were answered stands in what
-- it left.
use Rattle.std.specs.Prelude.{ℕ, ◌≡◌, ◌+◌, ◌<◌, ◌≤◌, ◌++◌, ◌⊎◌, Bool, List, length, take}
use Rattle.std.specs.Prelude.{slice_index_or, Option, Some, None, IsSomeAnd}
use Rattle.std.specs.List.{All, filter_map, sum_by}
use Rattle.log_records.specs.declared.record.Record.{Record}
use Rattle.log_records.specs.Log.{Log, lsn_of}
use Rattle.copy_vault.specs.declared.copy_id.CopyKind.{CopyKind}
use Rattle.page_decisions.specs.Decisions.{taken_count}
use Rattle.copy_vault.specs.Copy.{CopyView}
use Rattle.copy_vault.specs.Vault.{CopyState, complete_of, state_of}
use Rattle.copy_coverage.specs.Retired.{RetiredView}
use Rattle.settlement.specs.declared.receipt.Receipt.{Receipt}
use Rattle.settlement.specs.Checkpoint.{HasCheckpoint}
use Rattle.settlement.specs.Counts.{txn_records_in, written_in}
use Rattle.settlement.specs.Marks.{AreMarked}
use Rattle.settlement.specs.Receipt.{times, written}
use Rattle.settlement.specs.Session.{AllStand}
use Rattle.settlement.specs.Sessions.{AreApart, AreWrongAt, all_receipts}
use Rattle.engine_rules.specs.EngineState.{EngineState, log_of}
use Rattle.engine_run.specs.declared.beginning.Beginning.{Beginning}
use Rattle.engine_run.specs.declared.fault.SettleFault.{SettleFault}
use Rattle.engine_run.specs.declared.fault.SettleFault.TheVariants.{OutOfMemory, Unsettled}
use Rattle.engine_run.specs.declared.work.Work.{Work}
use Rattle.engine_run.specs.Given.{AreGiven}
use Rattle.engine_run.specs.declared.work.Work.TheVariants.{Copied, Pointed}

-- what a run leaves: its log, the LSN below which each record is forced, and its image copies
pub record Evidence : Type 0 where
  pub log : Log
  pub forced_end : ℕ
  pub copies : List CopyState

abbrev pub evidence : Log → ℕ → List CopyState → Evidence
evidence log forced_end copies = record {
  log = log;
  forced_end = forced_end;
  copies = copies;
}

abbrev pub evidence_of : EngineState → Evidence
evidence_of s = evidence (log_of s) s.forced_end s.copies

abbrev pub evidence_in : RetiredView → Evidence
evidence_in it = evidence it.log it.forced_end it.copies

-- the copy is of this kind, with its parent, and took so many pages
abbrev pub IsCopyWith : CopyKind → ℕ → CopyView → Type 0
IsCopyWith kind taken copy = (copy.kind ≡ kind) × (taken_count copy.pages ≡ taken)

-- the log has the checkpoint of a Point, with its redo point and page count, and the vault the
-- complete copy
abbrev pub WorkStands : Evidence → Work → Type 0
WorkStands e (Pointed point) =
    HasCheckpoint e.log e.forced_end point.begin point.end point.redo point.pages
WorkStands e (Copied id kind taken) =
    IsSomeAnd (complete_of (state_of e.copies id)) (IsCopyWith kind taken)

-- the begin LSN of a Point
abbrev pub begin_of : Work → Option ℕ
begin_of (Pointed point) = Some point.begin
begin_of (Copied id kind taken) = None

abbrev pub copy_of : Work → Option ℕ
copy_of (Pointed point) = None
copy_of (Copied id kind taken) = Some id

-- the LSNs of the records that receipts and Points speak of
abbrev pub lsns_of : List (List Receipt) → List Work → List ℕ
lsns_of sessions works = written (all_receipts sessions) ++ filter_map begin_of works

abbrev pub copies_of : List Work → List ℕ
copies_of works = filter_map copy_of works

-- the records of transactions that were there before, the first ones, and those that the sessions
-- have receipts of are as many as the log has
abbrev pub AddUp : ℕ → List (List Receipt) → List Record → Type 0
AddUp before sessions rs =
    txn_records_in (take before rs) + sum_by written_in sessions ≡ txn_records_in rs

-- none of the records that were answered was there before
abbrev pub AreNewer : ℕ → List (List Receipt) → List Work → Type 0
AreNewer before sessions works = All (λ lsn. lsn_of before ≤ lsn) (lsns_of sessions works)

-- none of the copies that were answered was there before
abbrev pub AreNewCopies : ℕ → List Work → Type 0
AreNewCopies last works = All (λ id. last < id) (copies_of works)

-- this was there when the sessions began. The shares of the sessions add up to the records of
-- transactions that the log has got since; each receipt stands, and so does each Point and copy;
-- none of their records and none of the copies is older; and nothing was answered twice
pub record IsSettled (began : Beginning) (e : Evidence) (sessions : List (List Receipt))
    (works : List Work) : Type 0 where
  pub counted : AddUp began.records sessions e.log.records
  pub newer : AreNewer began.records sessions works
  pub new_copies : AreNewCopies began.last_copy works
  pub receipts : All (AllStand e.log.records e.forced_end) sessions
  pub work : All (WorkStands e) works
  pub lsns : AreApart (lsns_of sessions works)
  pub copies : AreApart (copies_of works)

-- ---- why a run is not settled

-- a Point with this begin LSN does not stand, or where there is none, a copy
pub record HasBadWork (e : Evidence) (works : List Work) (begin : Option ℕ) : Type 0 where
  pub index : ℕ
  pub within : index < length works
  pub place : (d : Work) → begin_of (slice_index_or works index d) ≡ begin
  pub bad : (d : Work) → ¬ WorkStands e (slice_index_or works index d)

-- beside records that have these LSNs: a Point with this begin LSN does not stand, or has the LSN
-- of another one; or, at 0, a copy does not stand or comes twice
abbrev pub IsWorkWrongAt : Evidence → List ℕ → List Work → ℕ → Type 0
IsWorkWrongAt e lsns works at =
    HasBadWork e works (Some at) ⊎ (1 < times at (lsns ++ filter_map begin_of works))
    ⊎ ((at ≡ 0) × (HasBadWork e works None ⊎ ((id : ℕ) × (1 < times id (copies_of works)))))

-- one of them is wrong, where these records and ids are marked: it does not stand, or its
-- BeginChkpt or its id is marked
abbrev pub IsWorkBad : Evidence → List Bool → List Bool → Work → ℕ → Type 0
IsWorkBad e marks given (Pointed point) at =
    (at ≡ point.begin) × ((¬ WorkStands e (Pointed point))
    ⊎ ((lsns : List ℕ) → AreMarked marks lsns → 0 < times point.begin lsns))
IsWorkBad e marks given (Copied id kind taken) at =
    (at ≡ 0) × ((¬ WorkStands e (Copied id kind taken))
    ⊎ ((ids : List ℕ) → AreGiven given ids → 0 < times id ids))

-- a receipt or Point has this LSN, of a record that was there before
pub record HasOlderRecord (before : ℕ) (sessions : List (List Receipt)) (works : List Work) (at : ℕ)
    : Type 0 where
  pub below : at < lsn_of before
  pub there : 0 < times at (lsns_of sessions works)

-- a copy was answered that may have been there before
pub record HasOlderCopy (last : ℕ) (works : List Work) : Type 0 where
  pub id : ℕ
  pub given : id ≤ last
  pub there : 0 < times id (copies_of works)

-- a receipt or Point has this LSN, of an older record; or, at 0, a copy is older
abbrev pub IsOlderAt : Beginning → List (List Receipt) → List Work → ℕ → Type 0
IsOlderAt began sessions works at =
    HasOlderRecord began.records sessions works at
    ⊎ ((at ≡ 0) × HasOlderCopy began.last_copy works)

-- what an LSN names where a run is not settled. The shares are looked at first: where they do not
-- add up, it is 0. Else it is that of a receipt or Point whose record is older than its sessions,
-- or that does not stand, or of two that have it; or it is 0, and a copy is older, does not stand or
-- comes twice
abbrev pub IsWrongAt : Beginning → Evidence → List (List Receipt) → List Work → ℕ → Type 0
IsWrongAt began e sessions works at =
    ((¬ AddUp began.records sessions e.log.records) × (at ≡ 0))
    ⊎ (AddUp began.records sessions e.log.records × (IsOlderAt began sessions works at
    ⊎ AreWrongAt e.log.records e.forced_end sessions at
    ⊎ IsWorkWrongAt e (written (all_receipts sessions)) works at))

-- what a refusal tells: memory is asked for once the shares were compared
abbrev pub IsFaultOf : Beginning → Evidence → List (List Receipt) → List Work → SettleFault → Type 0
IsFaultOf began e sessions works OutOfMemory = AddUp began.records sessions e.log.records
IsFaultOf began e sessions works (Unsettled at) = IsWrongAt began e sessions works at

-- what a refusal tells where so many sessions were made: that not all of them are given, or what is
-- wrong with all of them
abbrev pub IsRefusalOf : ℕ → Beginning → Evidence → List (List Receipt) → List Work → SettleFault
    → Type 0
IsRefusalOf made began e sessions works why =
    ((¬ (length sessions ≡ made)) × (why ≡ Unsettled 0))
    ⊎ ((length sessions ≡ made) × IsFaultOf began e sessions works why)
