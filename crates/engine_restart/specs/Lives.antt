-- Lives of a database, one after another, each of which ends with a loss.
use Rattle.std.specs.Prelude.{ℕ, ◌≡◌, List, [], ◌∷◌, length, Result}
use Rattle.std.specs.List.{All, flat_map}
use Rattle.log_records.specs.Log.{IsPageCount, Log, lsn_of}
use Rattle.copy_coverage.specs.Kept.{IsKeptOf}
use Rattle.engine_rules.specs.AnsweredCommits.{AnsweredCommit, answered_commits}
use Rattle.engine_rules.specs.EngineState.{EngineState, IsFit, log_of, new_state}
use Rattle.engine_calls.specs.EventFits.{EventFits}
use Rattle.engine_rules.specs.Run.{Run}
use Rattle.engine_calls.specs.declared.event.Answer.{Answer}
use Rattle.engine_calls.specs.declared.event.Event.{Event}
use Rattle.engine_calls.specs.declared.refusal.Refusal.{Refusal}
use Rattle.engine_restart.specs.Interrupted.{IsFoundFrom}
use Rattle.engine_restart.specs.Restart.{undone_log}

-- an engine as it began, its calls and their replies, the engine as it was lost, and the log that
-- the loss left
pub record Life : Type 0 where
  pub began : EngineState
  pub events : List Event
  pub replies : List (Result Answer Refusal)
  pub lost : EngineState
  pub left : Log

-- the calls lead from one to the other, and the log is one that a crash may leave
pub record IsLife (life : Life) : Type 0 where
  pub fit : All EventFits life.events
  pub run : Run life.began life.events life.replies life.lost
  pub kept : IsKeptOf (log_of life.lost) life.lost.forced_end life.left

-- an engine is fit and has this log, all of it forced
pub record GoesOnFrom (log : Log) (s : EngineState) : Type 0 where
  pub log_is : log_of s ≡ log
  pub forced : s.forced_end ≡ lsn_of (length log.records)
  pub fit : IsFit s

-- each life goes on from what the one before it left, once what was open there is taken back; before
-- that, any number of restarts may have been interrupted
abbrev pub Follow : Life → List Life → Type 0
Follow life [] = Unit {0}
Follow life (next ∷ later) =
    ((found : Log) × IsFoundFrom life.left found × GoesOnFrom (undone_log found) next.began)
    × IsLife next × Follow next later

-- lives follow one another, and the first one begins with a new volume
pub record AreLives (first : Life) (later : List Life) : Type 0 where
  pub new : (pages frames : ℕ) × IsPageCount pages × (first.began ≡ new_state pages frames)
  pub is : IsLife first
  pub follow : Follow first later

abbrev pub last_life : Life → List Life → Life
last_life life [] = life
last_life life (next ∷ later) = last_life next later

-- the Commits that were answered in any of these lives
abbrev pub commits_of : List Life → List AnsweredCommit
commits_of lives = flat_map (λ life. answered_commits life.events life.replies) lives
