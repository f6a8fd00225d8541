use Rattle.std.proofs.Common.{◌≡◌, ◌+◌, ◌++◌, ◌∷◌, [], List, ap, subst, sym, ◌∙◌, arith, take}
use Rattle.std.specs.List.{All, filter_map}
use Rattle.std.proofs.lemmas.List.{append_assoc, take_all}
use Rattle.std.proofs.lemmas.List.Elements.{All-more}
use Rattle.settlement.specs.Sessions.{AreApart}
use Rattle.settlement.proofs.Public.{marked_apart}
use Rattle.engine_run.specs.Given.{AreGiven}
use Rattle.engine_run.specs.Settled.{WorkStands, begin_of, copies_of, copy_of, evidence}
use Rattle.engine_run.specs.declared.work.Work.{Work}
use Rattle.engine_run.proofs.Works.{given_apart, named_more, wrong_work}
use Rattle.engine_run.proofs.check_works.check_works.Goals as goal

pub returns-in-Err-clause-err : goal.returns-in-Err-clause-err
returns-in-Err-clause-err c = λ lsns m.
    let e = evidence c.args.log.now c.args.forced_end c.args.vault.now.copies in
    let so_far = c.loop-work.invariant in
    wrong_work e c.loop-work.marks c.loop-work.given lsns c.args.works.now c.loop-work.work-index
    c.in-Err.at c.work-item.result c.loop-work-test.true c.work-item.is (so_far.marked lsns m)
    so_far.given c.in-Err.ensures.err

pub loop-work-preserved : goal.loop-work-preserved
loop-work-preserved c =
    let e = evidence c.args.log.now c.args.forced_end c.args.vault.now.copies in
    let works = c.args.works.now in
    let i = c.loop-work.work-index in
    let w = c.work-item.result in
    let is = c.work-item.is in
    let inside = c.loop-work-test.true in
    let so_far = c.loop-work.invariant in
    let now = c.in_default.ensures in
    let long = c.check_work.ensures.ids in
    let few = so_far.few in
    record {
      lengths = c.check_work.ensures.marks ∙ so_far.lengths;
      few = omega arith;
      works = All-more (WorkStands e) works i w inside so_far.works (subst (WorkStands e) is now.ok);
      marked = λ lsns m.
          let more : filter_map begin_of (take (i + 1) works)
          ≡ filter_map begin_of (take i works) ++ filter_map begin_of (w ∷ []) =
          named_more begin_of works i w inside
          ∙ ap (λ (v : Work). filter_map begin_of (take i works) ++ filter_map begin_of (v ∷ [])) (sym is) in
          rw (more, ← append_assoc)
          (now.marked (lsns ++ filter_map begin_of (take i works)) (so_far.marked lsns m));
      given =
          let more : copies_of (take (i + 1) works) ≡ copies_of (take i works) ++ copies_of (w ∷ []) =
          named_more copy_of works i w inside
          ∙ ap (λ (v : Work). copies_of (take i works) ++ copies_of (v ∷ [])) (sym is) in
          subst (AreGiven c.check_work.new.given) (sym more)
          (now.given (copies_of (take i works)) so_far.given);
    }

pub returns-clause-ok : goal.returns-clause-ok
returns-clause-ok c =
    let e = evidence c.args.log.now c.args.forced_end c.args.vault.now.copies in
    let all = take_all c.loop-work.work-index c.args.works.now (omega arith) in
    subst (All (WorkStands e)) all c.loop-work.invariant.works

pub returns-clause-lsns : goal.returns-clause-lsns
returns-clause-lsns c = λ lsns m.
    let all = take_all c.loop-work.work-index c.args.works.now (omega arith) in
    subst (λ (ws : List Work). AreApart (lsns ++ filter_map begin_of ws)) all
    (marked_apart c.loop-work.marks
    (lsns ++ filter_map begin_of (take c.loop-work.work-index c.args.works.now))
    (c.loop-work.invariant.marked lsns m))

pub returns-clause-copies : goal.returns-clause-copies
returns-clause-copies c =
    let all = take_all c.loop-work.work-index c.args.works.now (omega arith) in
    subst (λ (ws : List Work). AreApart (copies_of ws)) all
    (given_apart c.loop-work.given (copies_of (take c.loop-work.work-index c.args.works.now))
    c.loop-work.invariant.given)
