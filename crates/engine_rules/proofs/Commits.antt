-- The Commits that were answered, in the log after a run and in what a crash leaves of it.
use Rattle.std.proofs.Common.{◌≡◌, ℕ, ◌<◌, ◌++◌, List, [], ◌∷◌, length, get_or, refl, sym, subst}
use Rattle.std.proofs.Common.{◌∙◌, arith}
use Rattle.std.specs.Prelude.{Result, Ok}
use Rattle.std.specs.List.{All}
use Rattle.std.specs.Option.{option_to_list}
use Rattle.std.proofs.Math.Seq.{get_or-append_seam}
use Rattle.std.proofs.lemmas.List.{get_or-take, get_or_append_left, length-append, length-take}
use Rattle.std.proofs.lemmas.List.Elements.{All-append, All-cons, All-nil}
use Rattle.log_records.specs.declared.record.Record.{Record}
use Rattle.log_records.specs.declared.record.Record.TheVariants as log
use Rattle.log_records.specs.Log.{Log}
use Rattle.log_rules.specs.Transactions.{last_lsn}
use Rattle.copy_coverage.specs.Kept.{IsKeptOf}
use Rattle.engine_calls.specs.declared.event.Answer.{Answer}
use Rattle.engine_calls.specs.declared.event.Answer.TheVariants as answer
use Rattle.engine_calls.specs.declared.event.Event.{Event}
use Rattle.engine_calls.specs.declared.event.Event.TheVariants as event
use Rattle.engine_calls.specs.declared.refusal.Refusal.{Refusal}
use Rattle.engine_rules.specs.AnsweredCommits.{AnsweredCommit, StandsIn, answered_commit}
use Rattle.engine_rules.specs.AnsweredCommits.{answered_commits}
use Rattle.engine_rules.specs.EngineState.{EngineState, IsFit, end, log_of, new_state}
use Rattle.engine_rules.specs.Run.{Run}
use Rattle.engine_rules.specs.Step.{Step}
use Rattle.engine_rules.proofs.Forces.{EndsAtRecord}
use Rattle.engine_rules.proofs.Steps.{forces}
use Rattle.engine_rules.proofs.Runs.{commit_is_forced, forced_end_from, forced_end_of_run}
use Rattle.engine_rules.proofs.Runs.{log_of_run}

-- the Commit stands in the log, and is forced
abbrev pub IsForcedIn : EngineState → AnsweredCommit → Type 0
IsForcedIn s commit = StandsIn s.log commit × (commit.lsn < s.forced_end)

pub longer : (rs more : List Record) (commit : AnsweredCommit) → StandsIn rs commit → StandsIn (rs ++ more) commit
longer rs more commit stands = record {
  place = stands.place;
  within = omega (arith, stands.within, length-append rs more);
  at_lsn = stands.at_lsn;
  prev = stands.prev;
  is = λ d. get_or_append_left rs more d stands.place stands.within ∙ stands.is d;
}

-- what one step answered, in the log after it
answered_now : (old : EngineState) (event : Event) (reply : Result Answer Refusal) (new : EngineState)
    → Step old event reply new → All (IsForcedIn new) (option_to_list (answered_commit event reply))
answered_now old (event.Commit txn) (Ok (answer.Logged lsn)) new step =
    let is = commit_is_forced old txn lsn new step in
    let at : lsn ≡ end old = let given = step.1 in cc in
    let r = log.Commit lsn txn (last_lsn old.log txn) in
    let here : StandsIn (old.log ++ r ∷ []) (record { txn = txn; lsn = lsn }) = record {
      place = length old.log;
      within = omega (arith, length-append old.log (r ∷ []));
      at_lsn = at;
      prev = last_lsn old.log txn;
      is = λ d. get_or-append_seam old.log r [] d;
    } in
    All-cons (IsForcedIn new) (record { txn = txn; lsn = lsn }) []
    (subst (λ (rs : List Record). StandsIn rs (record { txn = txn; lsn = lsn })) (sym is.0) here, is.1)
    (All-nil (IsForcedIn new))
answered_now old event reply new step = All-nil (IsForcedIn new)

all_forced : (old : EngineState) (events : List Event) (replies : List (Result Answer Refusal)) (new : EngineState)
    → EndsAtRecord old → Run old events replies new → All (IsForcedIn new) (answered_commits events replies)
all_forced old [] [] new ends is = All-nil (IsForcedIn new)
all_forced old (event ∷ events) (reply ∷ replies) new ends run =
    let mid = run.0 in
    let ends_now = (forces old event reply mid ends run.1).0 in
    let grown = log_of_run mid events replies new run.2 in
    let no_less = forced_end_from mid events replies new ends_now run.2 in
    let first = answered_now old event reply mid run.1 in
    All-append (IsForcedIn new) (option_to_list (answered_commit event reply)) (answered_commits events replies)
    (λ k d lt.
    let one = first k d lt in
    let commit = get_or (option_to_list (answered_commit event reply)) k d in (
      subst (λ (rs : List Record). StandsIn rs commit) (sym grown.1) (longer mid.log grown.0 commit one.0),
      omega (arith, one.1, no_less),
    ))
    (all_forced mid events replies new ends_now run.2)
all_forced old [] (reply ∷ replies) new ends run = absurd run
all_forced old (event ∷ events) [] new ends run = absurd run

pub forced_later : (old : EngineState) (events : List Event) (replies : List (Result Answer Refusal)) (new : EngineState)
    → IsFit old → Run old events replies new → All (IsForcedIn new) (answered_commits events replies)
forced_later old events replies new fit run = all_forced old events replies new fit.forced run

-- what was forced before a run is so after it
pub stays_forced : (old : EngineState) (events : List Event) (replies : List (Result Answer Refusal)) (new : EngineState)
    (commit : AnsweredCommit) → IsFit old → Run old events replies new → IsForcedIn old commit → IsForcedIn new commit
stays_forced old events replies new commit fit run (stands, below) =
    let grown = log_of_run old events replies new run in
    let no_less = forced_end_of_run old events replies new fit run in (
      subst (λ (rs : List Record). StandsIn rs commit) (sym grown.1) (longer old.log grown.0 commit stands),
      omega (arith, below, no_less),
    )

pub commits_are_forced : (pages frames : ℕ) (events : List Event) (replies : List (Result Answer Refusal))
    (new : EngineState) → Run (new_state pages frames) events replies new
    → All (λ commit. StandsIn new.log commit × (commit.lsn < new.forced_end)) (answered_commits events replies)
commits_are_forced pages frames events replies new run =
    all_forced (new_state pages frames) events replies new (0, omega arith, refl) run

-- a record below the forced end is among those that are kept
pub stays_kept : (s : EngineState) (kept : Log) (commit : AnsweredCommit) → IsKeptOf (log_of s) s.forced_end kept
    → IsForcedIn s commit → StandsIn kept.records commit
stays_kept s kept commit is (stands, below) =
    let past : stands.place < is.count = omega (arith, stands.at_lsn, below, is.forced) in
    subst (λ (l : Log). StandsIn l.records commit) (sym is.made) (record {
      place = stands.place;
      within = omega (arith, past, length-take is.count s.log, is.within);
      at_lsn = stands.at_lsn;
      prev = stands.prev;
      is = λ d. get_or-take is.count s.log stands.place d past ∙ stands.is d;
    })

pub commits_are_kept : (pages frames : ℕ) (events : List Event) (replies : List (Result Answer Refusal))
    (new : EngineState) (kept : Log) → Run (new_state pages frames) events replies new
    → IsKeptOf (log_of new) new.forced_end kept → All (StandsIn kept.records) (answered_commits events replies)
commits_are_kept pages frames events replies new kept run is =
    λ k d lt. stays_kept new kept _ is (commits_are_forced pages frames events replies new run k d lt)
