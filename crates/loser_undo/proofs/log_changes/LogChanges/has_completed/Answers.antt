use Rattle.std.proofs.Common.{◌≡◌, ◌∙◌, ◌&&◌, true, false, ap, ap₂, arith, length, refl, sym, true≢false}
use Rattle.std.specs.List.{list_any}
use Rattle.std.proofs.lemmas.List.Folds.{list_any_at, list_any_none}
use Rattle.log_rules.specs.declared.ckpt_point.CkptPoint.{CkptPoint}
use Rattle.log_rules.specs.Checkpoint.{completed_in}
use Rattle.log_rules.proofs.Public.{complete-of_end, end-of_complete}
use Rattle.loser_undo.specs.Kept.{Kept}
use Rattle.loser_undo.proofs.Completed.{ended_by, is_named, named_by}
use Rattle.loser_undo.proofs.log_changes.LogChanges.has_completed.Goals as goal

pub returns-then-eq-2 : goal.returns-then-eq-2
returns-then-eq-2 c = λ log kept linked.
    let rs = log.records in
    let begin = c.args.master.now.begin in
    let end = c.args.master.now.end in
    let x = c.checkpoint-item.result in
    let xs = c.deref-checkpoint-items.result.now in
    let here : is_named begin end x ≡ true =
    ap₂ (λ a b. a && b) (sym c.eq.ensures ∙ c.if-eq.true) (sym c.eq-then-eq.ensures ∙ c.if-eq-2.true) in
    let all : xs ≡ completed_in rs =
    c.deref-checkpoint-items.ensures.value ∙ ap (λ (k : Kept). k.checkpoints) c.self.view_is
    ∙ ap (λ (k : Kept). k.checkpoints) kept in
    let found : list_any (is_named begin end) xs ≡ true =
    list_any_at (is_named begin end) xs c.loop-checkpoint.checkpoint-index x c.loop-checkpoint-test.true
    (ap (is_named begin end) (sym c.checkpoint-item.is) ∙ here) in
    let has = ended_by begin end rs (ap (list_any (is_named begin end)) (sym all) ∙ found) in
    (λ yes. complete-of_end rs begin end has.0 linked has.1, λ whole. refl)

pub returns : goal.returns
returns c = λ log kept linked.
    let rs = log.records in
    let begin = c.args.master.now.begin in
    let end = c.args.master.now.end in
    let xs = c.args.self.now.checkpoints in
    let same : c.deref-checkpoint-items.result.now ≡ xs =
    c.deref-checkpoint-items.ensures.value ∙ ap (λ (k : Kept). k.checkpoints) c.self.view_is in
    let none : list_any (is_named begin end) xs ≡ false =
    list_any_none (is_named begin end) xs
    (λ k d lt. c.loop-checkpoint.invariant k d (omega (arith, lt, ap (length {A = CkptPoint}) same, c.loop-checkpoint-test.false))) in (
      λ yes. cc,
      λ whole.
          let has = end-of_complete rs begin end whole in
          absurd (true≢false (sym (named_by begin end has.0 rs has.1.0 has.1.1 has.1.2)
          ∙ ap (λ (k : Kept). list_any (is_named begin end) k.checkpoints) (sym kept) ∙ none)),
    )
