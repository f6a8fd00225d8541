-- What holds of lives that follow one another.
use Rattle.std.proofs.Common.{◌≡◌, ◌+◌, ◌<◌, ◌≤◌, ◌++◌, ℕ, List, [], ◌∷◌, length, get_or, sym, ap, subst, append-nil, append_assoc}
use Rattle.std.proofs.Common.{◌∙◌, arith, length-append}
use Rattle.std.specs.List.{All}
use Rattle.std.specs.Prelude.{reverse}
use Rattle.std.proofs.Math.Seq.{get_or-append_seam}
use Rattle.std.proofs.lemmas.List.{length-take, length_push}
use Rattle.std.proofs.lemmas.List.Elements.{All-append, All-nil}
use Rattle.page_core.specs.declared.page.Page.{Page}
use Rattle.log_records.specs.declared.limits.TheConstants.{MAX_RECORDS}
use Rattle.log_records.specs.declared.record.Record.{Record}
use Rattle.log_records.specs.Coverage.{Covers}
use Rattle.log_records.specs.Image.{redo_all}
use Rattle.log_records.specs.Log.{IsLog, Log, lsn_of, page_count}
use Rattle.log_records.specs.Record.{own_lsn}
use Rattle.log_records.proofs.Public.{covers_later, resume_covering, stands_in, valid_cut}
use Rattle.log_rules.specs.Linked.{IsLinked}
use Rattle.log_rules.specs.Transactions.{owed}
use Rattle.log_rules.proofs.Public.{linked-take}
use Rattle.copy_vault.specs.Chain.{content}
use Rattle.copy_vault.specs.Copy.{CopyView}
use Rattle.copy_vault.specs.Vault.{complete, state_of}
use Rattle.copy_coverage.specs.Copied.{AreRestorable, Restores}
use Rattle.copy_coverage.proofs.Public.{covers_kept}
use Rattle.loser_undo.specs.Recovery.{HasCommitted, appended}
use Rattle.loser_undo.specs.Undo.{after_undo}
use Rattle.loser_undo.proofs.Public.{log_and_appended, undone_fits}
use Rattle.engine_rules.specs.AnsweredCommits.{AnsweredCommit, StandsIn, answered_commits}
use Rattle.engine_rules.specs.EngineState.{EngineState, IsFit, log_of}
use Rattle.engine_rules.proofs.Public.{IsForcedIn, forced_later, longer, stays_forced, stays_kept}
use Rattle.engine_rules.proofs.Public.{fit_of_run, new_is_fit}
use Rattle.engine_restart.proofs.Interrupted.{found_begins, found_valid, undone_always}
use Rattle.engine_restart.proofs.Restarts.{all_committed}
use Rattle.engine_restart.proofs.UndoneParts.{UndoLaws}
use Rattle.engine_restart.specs.Interrupted.{IsFoundFrom}
use Rattle.engine_restart.specs.Lives.{AreLives, Follow, GoesOnFrom, IsLife, Life, commits_of, last_life}
use Rattle.engine_restart.specs.Restart.{undone_log}

-- ---- one life

pub fit_after : (life : Life) → IsFit life.began → IsLife life → IsFit life.lost
fit_after life fit is = fit_of_run life.began life.events life.replies life.lost fit is.fit is.run

pub valid_left : (life : Life) → IsFit life.lost → IsLife life → IsLog life.left
valid_left life fit is =
    subst IsLog (sym is.kept.made) (valid_cut (log_of life.lost) is.kept.count fit.valid)

pub linked_left : (life : Life) → IsFit life.lost → IsLife life → IsLinked life.left.records
linked_left life fit is =
    subst (λ (l : Log). IsLinked l.records) (sym is.kept.made) (linked-take life.lost.log fit.linked is.kept.count)

-- what stood forced before its first call is in what it left, and so is what it answered
older_kept : (life : Life) (commit : AnsweredCommit) → IsFit life.began → IsLife life
    → IsForcedIn life.began commit → StandsIn life.left.records commit
older_kept life commit fit is stands =
    stays_kept life.lost life.left commit is.kept
    (stays_forced life.began life.events life.replies life.lost commit fit is.run stands)

answered_kept : (life : Life) → IsFit life.began → IsLife life
    → All (StandsIn life.left.records) (answered_commits life.events life.replies)
answered_kept life fit is = λ k d lt.
    stays_kept life.lost life.left (get_or (answered_commits life.events life.replies) k d) is.kept
    (forced_later life.began life.events life.replies life.lost fit is.run k d lt)

-- there is room for what undo appends to it
room_left : (life : Life) → IsFit life.lost → IsLife life → IsLog (undone_log life.left)
room_left life fit is =
    let rs = life.lost.log in
    let room = fit.room is.kept.count is.kept.within is.kept.forced in
    undone_fits life.left (valid_left life fit is) (linked_left life fit is)
    (subst (λ (l : Log). length l.records + owed l.records ≤ MAX_RECORDS) (sym is.kept.made) room)

-- ---- from one life to the next

-- what was left stands in what is found
still_there : (left found : Log) (commit : AnsweredCommit) → IsFoundFrom left found → StandsIn left.records commit
    → StandsIn found.records commit
still_there left found commit is stands =
    let begins = found_begins left found is in
    subst (λ (rs : List Record). StandsIn rs commit) (sym begins.1) (longer left.records begins.0 commit stands)

-- it is forced in the engine that goes on
taken_over : (left : Log) (s : EngineState) (commit : AnsweredCommit) → GoesOnFrom (undone_log left) s
    → StandsIn left.records commit → IsForcedIn s commit
taken_over left s commit goes stands =
    let more : StandsIn (after_undo left.records) commit =
    subst (λ (rs : List Record). StandsIn rs commit) (log_and_appended left)
    (longer left.records (appended left) commit stands) in
    let within = more.within in
    let below : commit.lsn < lsn_of (length (after_undo left.records)) = omega (arith, more.at_lsn, within) in (
      subst (λ (l : Log). StandsIn l.records commit) (sym goes.log_is) more,
      omega (arith, below, goes.forced),
    )

-- what was answered until now, and then in these lives, stands in what the last one leaves
all_stand : (life : Life) (later : List Life) (older : List AnsweredCommit) → IsFit life.began → IsLife life
    → Follow life later → All (IsForcedIn life.began) older
    → All (StandsIn (last_life life later).left.records) (older ++ commits_of (life ∷ later))
all_stand life [] older fit is follow stand =
    All-append (StandsIn life.left.records) older (commits_of (life ∷ []))
    (λ k d lt. older_kept life (get_or older k d) fit is (stand k d lt))
    (All-append (StandsIn life.left.records) (answered_commits life.events life.replies) []
    (answered_kept life fit is) (All-nil (StandsIn life.left.records)))
all_stand life (next ∷ later) older fit is follow stand =
    let mine = answered_commits life.events life.replies in
    let left = All-append (StandsIn life.left.records) older mine
    (λ k d lt. older_kept life (get_or older k d) fit is (stand k d lt)) (answered_kept life fit is) in
    let found = follow.0.0 in
    let goes = follow.0.2 in
    subst (All (StandsIn (last_life next later).left.records)) (append_assoc older mine (commits_of (next ∷ later)))
    (all_stand next later (older ++ mine) goes.fit follow.1 follow.2
    (λ k d lt. taken_over found next.began (get_or (older ++ mine) k d) goes
    (still_there life.left found (get_or (older ++ mine) k d) follow.0.1 (left k d lt))))

-- the last of them is one, of an engine that was fit
last_is : (life : Life) (later : List Life) → IsFit life.began → IsLife life → Follow life later
    → IsLife (last_life life later) × IsFit (last_life life later).lost
last_is life [] fit is follow = (is, fit_after life fit is)
last_is life (next ∷ later) fit is follow = last_is next later follow.0.2.fit follow.1 follow.2

-- ---- from the first one on

fit_first : (first : Life) (later : List Life) → AreLives first later → IsFit first.began
fit_first first later are =
    let new = are.new in
    subst IsFit (sym new.3) (new_is_fit new.0 new.1 new.2)

pub last_of : (first : Life) (later : List Life) → AreLives first later
    → IsLife (last_life first later) × IsFit (last_life first later).lost
last_of first later are = last_is first later (fit_first first later are) are.is are.follow

pub lost_fit : (first : Life) (later : List Life) → AreLives first later → IsFit (last_life first later).lost
lost_fit first later are = (last_of first later are).1

pub commits_stand : (first : Life) (later : List Life) (found : Log) → AreLives first later
    → IsFoundFrom (last_life first later).left found → All (StandsIn found.records) (commits_of (first ∷ later))
commits_stand first later found are is = λ k d lt.
    still_there (last_life first later).left found (get_or (commits_of (first ∷ later)) k d) is
    (all_stand first later [] (fit_first first later are) are.is are.follow (All-nil (IsForcedIn first.began)) k d lt)

pub numbers_committed : UndoLaws → (first : Life) (later : List Life) (found : Log) → AreLives first later
    → IsFoundFrom (last_life first later).left found
    → let undone = undone_log found in
    HasCommitted (last_life first later).left.records (redo_all undone.records (page_count undone))
numbers_committed laws first later found are is_found =
    let last = last_life first later in
    let is = last_of first later are in
    let undone = undone_log found in
    all_committed last.left (redo_all undone.records (page_count undone)) (valid_left last is.1 is.0)
    (linked_left last is.1 is.0)
    (ap (λ (l : Log). redo_all l.records (page_count l))
    (undone_always laws last.left found (room_left last is.1 is.0) (linked_left last is.1 is.0) is_found))

-- ---- copies, and a log that is found

-- redo of a longer log makes a page that lacks nothing of the log so far what that log makes of it
covers_more : (log : Log) (p : ℕ) (page : Page) (bound : ℕ) (rs more : List Record) → log.records ≡ rs ++ more
    → IsLog log → bound ≤ lsn_of (length rs) → Covers rs p page bound → Covers log.records p page bound
covers_more log p page bound rs [] all valid low covers =
    subst (λ (xs : List Record). Covers xs p page bound) (sym (all ∙ append-nil rs)) covers
covers_more log p page bound rs (r ∷ more) all valid low covers =
    let split : log.records ≡ (rs ++ r ∷ []) ++ more = all ∙ sym (append_assoc rs (r ∷ []) more) in
    let within : length rs < length log.records = omega (arith, ap length all, length-append rs (r ∷ more)) in
    let here : get_or log.records (length rs) r ≡ r =
    ap (λ (xs : List Record). get_or xs (length rs) r) all ∙ get_or-append_seam rs r more r in
    let at : lsn_of (length rs) ≡ own_lsn r =
    sym (stands_in log valid (length rs) r within).lsn ∙ ap own_lsn here in
    covers_more log p page bound (rs ++ r ∷ []) more split valid (omega (arith, low, length_push rs r))
    (covers_later rs r p page bound (omega (arith, low, at)) covers)

pub still_restored : UndoLaws → (first : Life) (later : List Life) (found : Log) (id : ℕ) (copy : CopyView)
    → AreLives first later → IsFoundFrom (last_life first later).left found
    → let last = last_life first later in
    state_of last.lost.copies id ≡ complete copy → AreRestorable (log_of last.lost) last.lost.forced_end last.lost.copies
    → Restores last.lost.copies copy last.left.records → Restores last.lost.copies copy found.records
still_restored laws first later found id copy are is_found is restorable restores = record {
  older = restores.older;
  stands = restores.stands;
  restored = λ p.
      let page = content (reverse (copy ∷ restores.older)) p in
      let covered = restorable.covered id copy restores.older is restores.stands p in
      let of = restorable.each id copy is in
      let kept = fate.0.kept in
      let order = of.noted.order in
      let early = of.early in
      let forced = kept.forced in
      let stable = covered.stable in
      let begins = found_begins last.left found is_found in
      let within = kept.within in
      let long : length last.left.records ≡ kept.count =
      ap (λ (l : Log). length l.records) kept.made ∙ omega (arith, within, length-take kept.count last.lost.log) in
      resume_covering found p page copy.redo valid
      (covers_more found p page copy.redo last.left.records begins.0 begins.1 valid (omega (arith, order, early, forced, long))
      (subst (λ (l : Log). Covers l.records p page copy.redo) (sym kept.made)
      (covers_kept (log_of last.lost) kept.count p page copy.redo fate.1.valid kept.within covered.covers
      (omega (arith, stable, forced)))));
}
  where
    last : Life
    last = last_life first later

    fate : IsLife (last_life first later) × IsFit (last_life first later).lost
    fate = last_of first later are

    valid : IsLog found
    valid = found_valid laws (last_life first later).left found (room_left (last_life first later) fate.1 fate.0)
        (linked_left (last_life first later) fate.1 fate.0) is_found
