-- What holds of lives that follow one another, each of which ends with a loss of power.
use Rattle.std.proofs.Common.{◌<◌, ◌++◌, List, [], ◌∷◌, length, get_or, sym, subst, append_assoc}
use Rattle.std.proofs.Common.{arith}
use Rattle.std.specs.List.{All}
use Rattle.std.proofs.lemmas.List.Elements.{All-append, All-nil}
use Rattle.log_records.specs.declared.record.Record.{Record}
use Rattle.log_records.specs.Log.{Log, lsn_of}
use Rattle.loser_undo.specs.Recovery.{appended}
use Rattle.loser_undo.specs.Undo.{after_undo}
use Rattle.loser_undo.proofs.Public.{log_and_appended}
use Rattle.engine_rules.specs.AnsweredCommits.{AnsweredCommit, StandsIn, answered_commits}
use Rattle.engine_rules.specs.EngineState.{EngineState, IsFit}
use Rattle.engine_rules.proofs.Public.{IsForcedIn, fit_of_run, forced_later, longer, new_is_fit, stays_forced}
use Rattle.engine_restart.specs.Lives.{GoesOnFrom, Life, commits_of, last_life}
use Rattle.engine_restart.specs.Restart.{undone_log}
use Rattle.open_database.specs.PowerCuts.{AreCutLives, BeginsWith, FollowCuts, IsCommittedIn, IsCutLife}
use Rattle.open_database.proofs.PowerCuts.{committed_in, front_stands}

-- ---- one life

fit_after : (life : Life) → IsFit life.began → IsCutLife life → IsFit life.lost
fit_after life fit is = fit_of_run life.began life.events life.replies life.lost fit is.fit is.run

-- what stood forced before its first call is in what it left, and so is what it answered
older_left : (life : Life) (commit : AnsweredCommit) → IsFit life.began → IsCutLife life
    → IsForcedIn life.began commit → StandsIn life.left.records commit
older_left life commit fit is stands =
    front_stands life.lost life.left is.has commit
    (stays_forced life.began life.events life.replies life.lost commit fit is.run stands)

answered_left : (life : Life) → IsFit life.began → IsCutLife life
    → All (StandsIn life.left.records) (answered_commits life.events life.replies)
answered_left life fit is = λ k d lt.
    front_stands life.lost life.left is.has (get_or (answered_commits life.events life.replies) k d)
    (forced_later life.began life.events life.replies life.lost fit is.run k d lt)

-- ---- from one life to the next

still_there : (left found : Log) (commit : AnsweredCommit) → BeginsWith left found → StandsIn left.records commit
    → StandsIn found.records commit
still_there left found commit (more, is) stands =
    subst (λ (l : Log). StandsIn l.records commit) (sym is) (longer left.records more commit stands)

-- it is forced in the engine that goes on
taken_over : (found : Log) (s : EngineState) (commit : AnsweredCommit) → GoesOnFrom (undone_log found) s
    → StandsIn found.records commit → IsForcedIn s commit
taken_over found s commit goes stands =
    let more : StandsIn (after_undo found.records) commit =
    subst (λ (rs : List Record). StandsIn rs commit) (log_and_appended found)
    (longer found.records (appended found) commit stands) in
    let within = more.within in
    let below : commit.lsn < lsn_of (length (after_undo found.records)) = omega (arith, more.at_lsn, within) in (
      subst (λ (l : Log). StandsIn l.records commit) (sym goes.log_is) more,
      omega (arith, below, goes.forced),
    )

-- what was answered until now, and then in these lives, stands in what the last one leaves
all_stand : (life : Life) (later : List Life) (older : List AnsweredCommit) → IsFit life.began → IsCutLife life
    → FollowCuts life later → All (IsForcedIn life.began) older
    → All (StandsIn (last_life life later).left.records) (older ++ commits_of (life ∷ later))
all_stand life [] older fit is follow stand =
    All-append (StandsIn life.left.records) older (commits_of (life ∷ []))
    (λ k d lt. older_left life (get_or older k d) fit is (stand k d lt))
    (All-append (StandsIn life.left.records) (answered_commits life.events life.replies) []
    (answered_left life fit is) (All-nil (StandsIn life.left.records)))
all_stand life (next ∷ later) older fit is follow stand =
    let mine = answered_commits life.events life.replies in
    let left = All-append (StandsIn life.left.records) older mine
    (λ k d lt. older_left life (get_or older k d) fit is (stand k d lt)) (answered_left life fit is) in
    let found = follow.0.0 in
    let goes = follow.0.2 in
    subst (All (StandsIn (last_life next later).left.records)) (append_assoc older mine (commits_of (next ∷ later)))
    (all_stand next later (older ++ mine) goes.fit follow.1 follow.2
    (λ k d lt. taken_over found next.began (get_or (older ++ mine) k d) goes
    (still_there life.left found (get_or (older ++ mine) k d) follow.0.1 (left k d lt))))

-- the last of them is one, of an engine that was fit
last_is : (life : Life) (later : List Life) → IsFit life.began → IsCutLife life → FollowCuts life later
    → IsCutLife (last_life life later) × IsFit (last_life life later).lost
last_is life [] fit is follow = (is, fit_after life fit is)
last_is life (next ∷ later) fit is follow = last_is next later follow.0.2.fit follow.1 follow.2

-- ---- from the first one on

fit_first : (first : Life) (later : List Life) → AreCutLives first later → IsFit first.began
fit_first first later are =
    let new = are.new in
    subst IsFit (sym new.3) (new_is_fit new.0 new.1 new.2)

pub last_cut : (first : Life) (later : List Life) → AreCutLives first later
    → IsCutLife (last_life first later) × IsFit (last_life first later).lost
last_cut first later are = last_is first later (fit_first first later are) are.is are.follow

pub all_committed : (first : Life) (later : List Life) (found : Log) → AreCutLives first later
    → BeginsWith (last_life first later).left found → All (IsCommittedIn found.records) (commits_of (first ∷ later))
all_committed first later found are begins = λ k d lt.
    let commit = get_or (commits_of (first ∷ later)) k d in
    committed_in found.records commit
    (still_there (last_life first later).left found commit begins
    (all_stand first later [] (fit_first first later are) are.is are.follow (All-nil (IsForcedIn first.began)) k d lt))
