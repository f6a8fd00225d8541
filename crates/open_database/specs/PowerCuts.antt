-- What a loss of power leaves of a log on a disk, and lives that end so.
use Rattle.std.specs.Prelude.{ℕ, ◌≡◌, ◌≤◌, Bool, false, List, [], ◌∷◌, length}
use Rattle.std.specs.List.{All}
use Rattle.log_records.specs.Log.{IsPageCount, Log, lsn_of, with_next}
use Rattle.log_records.specs.declared.record.Record.{Record}
use Rattle.log_rules.specs.Transactions.{is_open}
use Rattle.log_store.specs.WrittenLog.{first_records}
use Rattle.log_prefix.specs.Front.{IsLongestFront}
use Rattle.file_devices.specs.FileLog.{IsTrusted, LogOnDisk}
use Rattle.engine_calls.specs.EventFits.{EventFits}
use Rattle.engine_rules.specs.AnsweredCommits.{AnsweredCommit, StandsIn}
use Rattle.engine_rules.specs.EngineState.{EngineState, log_of, new_state}
use Rattle.engine_rules.specs.Run.{Run}
use Rattle.engine_restart.specs.Lives.{GoesOnFrom, Life}
use Rattle.engine_restart.specs.Restart.{undone_log}

-- a crash at this moment may leave a content of a log's disk of which this log is the longest
-- front. What the disk gave when it was opened was right, or was stored again since
pub record MayBeRead {D : Type 0} (may_leave : D → List ℕ → Type 0) (is_clean : D → Bool)
    (device : LogOnDisk D) (log : Log) : Type 0 where
  pub trusted : IsTrusted is_clean device
  pub content : List ℕ
  pub left : may_leave device.disk content
  pub front : IsLongestFront content log

-- a log begins with each record of an engine's log that is forced; behind these it may have any
-- records that may follow
pub record HasForced (s : EngineState) (log : Log) : Type 0 where
  pub count : ℕ
  pub there : count ≤ length s.log
  pub end : s.forced_end ≡ lsn_of count
  pub same : first_records count log ≡ first_records count (log_of s)

-- the Commit stands in the log, and its transaction is not open at the end: undo does not take it
-- back
pub record IsCommittedIn (rs : List Record) (commit : AnsweredCommit) : Type 0 where
  pub stands : StandsIn rs commit
  pub closed : is_open rs commit.txn ≡ false

-- a log begins with this one
abbrev pub BeginsWith : Log → Log → Type 0
BeginsWith first log = (more : List Record) × (log ≡ with_next first more)

-- the calls lead from one engine to the other, and the log that the loss left has each forced
-- record
pub record IsCutLife (life : Life) : Type 0 where
  pub fit : All EventFits life.events
  pub run : Run life.began life.events life.replies life.lost
  pub has : HasForced life.lost life.left

-- each life goes on from a log that begins with the one which the life before it left, once what
-- was open there is taken back: restarts between them that were cut short may have left more behind
-- it
abbrev pub FollowCuts : Life → List Life → Type 0
FollowCuts life [] = Unit {0}
FollowCuts life (next ∷ later) =
    ((found : Log) × BeginsWith life.left found × GoesOnFrom (undone_log found) next.began)
    × IsCutLife next × FollowCuts next later

-- lives follow one another, and the first one begins with a new volume
pub record AreCutLives (first : Life) (later : List Life) : Type 0 where
  pub new : (pages frames : ℕ) × IsPageCount pages × (first.began ≡ new_state pages frames)
  pub is : IsCutLife first
  pub follow : FollowCuts first later
