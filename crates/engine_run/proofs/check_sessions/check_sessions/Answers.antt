use Rattle.std.proofs.Common.{◌≡◌, ◌++◌, List, ap, subst, sym, ◌∙◌, take, slice_index_or}
use Rattle.std.proofs.lemmas.List.Elements.{All-more}
use Rattle.settlement.specs.Marks.{AreMarked}
use Rattle.settlement.specs.Receipt.{written}
use Rattle.settlement.specs.Session.{AllStand}
use Rattle.settlement.specs.Sessions.{all_receipts}
use Rattle.settlement.specs.declared.receipt.Receipt.{Receipt}
use Rattle.settlement.proofs.Public.{all_more, wrong_in}
use Rattle.engine_run.proofs.check_sessions.check_sessions.Goals as goal

pub returns-in-Err-clause-err : goal.returns-in-Err-clause-err
returns-in-Err-clause-err g c =
    let sessions = c.args.sessions.now in
    let i = c.loop-session.session-index in
    let xs = c.receipts.result.now in
    let is : xs ≡ slice_index_or sessions i xs =
    subst (λ (ys : List Receipt). ys ≡ slice_index_or sessions i ys) (sym c.receipts.ensures)
    c.session-item.is in
    wrong_in c.args.records.now c.args.forced_end c.loop-session.marks sessions i c.in-Err.at xs
    c.loop-session-test.true is c.loop-session.invariant.marked c.in-Err.ensures.err

pub loop-session-preserved : goal.loop-session-preserved
loop-session-preserved g c =
    let sessions = c.args.sessions.now in
    let i = c.loop-session.session-index in
    let xs = c.receipts.result.now in
    let inside = c.loop-session-test.true in
    let so_far = c.loop-session.invariant in
    let now = c.in_default.ensures in
    let stands = AllStand c.args.records.now c.args.forced_end in
    let is : xs ≡ slice_index_or sessions i xs =
    subst (λ (ys : List Receipt). ys ≡ slice_index_or sessions i ys) (sym c.receipts.ensures)
    c.session-item.is in
    let before = written (all_receipts (take i sessions)) in
    record {
      pages = c.check_session.ensures.pages ∙ so_far.pages;
      marks = c.check_session.ensures.marks ∙ so_far.marks;
      stand = All-more stands sessions i xs inside so_far.stand (subst stands is now.ok);
      marked =
          subst (AreMarked c.check_session.new.marks)
          (sym (all_more sessions i xs inside
          ∙ ap (λ (ys : List Receipt). before ++ written ys) (sym is)))
          (now.marked before so_far.marked);
    }
