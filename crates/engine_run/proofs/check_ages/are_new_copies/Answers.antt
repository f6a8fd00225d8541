use Rattle.std.proofs.Common.{◌<◌, ◌∷◌, ℕ, List, [], ap, arith, subst, sym}
use Rattle.std.specs.List.{All, filter_map}
use Rattle.std.proofs.lemmas.List.{take_all}
use Rattle.std.proofs.lemmas.List.Elements.{All-cons, All-nil}
use Rattle.engine_run.specs.Settled.{copies_of, copy_of}
use Rattle.engine_run.specs.declared.work.Work.{Work}
use Rattle.engine_run.proofs.Works.{named_there, newer_copy, newer_more}
use Rattle.engine_run.proofs.check_ages.are_new_copies.Goals as goal
use Rattle.engine_run.proofs.check_ages.are_new_copies.Goals.{in-Copied+else-id-last, in_default}

pub returns-then-id-last-clause-no : goal.returns-then-id-last-clause-no
returns-then-id-last-clause-no c = λ no. record {
  id = c.in-Copied.id;
  given = omega (arith, c.if-id-last.true, c.id.view_is);
  there = named_there copy_of c.args.works.now c.loop-work.work-index c.in-Copied.id c.work-item.result
      c.loop-work-test.true c.work-item.is (ap (λ (w : Work). filter_map copy_of (w ∷ [])) c.in-Copied.is);
}

pub loop-work-preserved : goal.loop-work-preserved
loop-work-preserved c =
    let P : ℕ → Type 0 = λ id. c.args.last < id in
    let w = c.work-item.result in
    newer_more copy_of P c.args.works.now c.loop-work.work-index w c.loop-work-test.true c.work-item.is c.loop-work.invariant
    (elim c.match-work.branch [
      | in-Copied+else-id-last b ↦
          subst (λ (v : Work). All P (filter_map copy_of (v ∷ []))) (sym b.in-Copied.is)
          (All-cons P b.in-Copied.id [] (omega (arith, b.if-id-last.false, b.id.view_is)) (All-nil P))
      | in_default b ↦ newer_copy P w (λ id kind taken is. absurd (b.in_default.not-Copied id kind taken is))
    ])

pub returns-clause-yes : goal.returns-clause-yes
returns-clause-yes c = λ yes.
    let past = c.loop-work-test.false in
    let all = take_all c.loop-work.work-index c.args.works.now (omega arith) in
    subst (λ (ws : List Work). All (λ id. c.args.last < id) (copies_of ws)) all c.loop-work.invariant
