use Rattle.std.proofs.Common.{◌≤◌, ◌∷◌, List, [], ap, arith, subst, sym}
use Rattle.std.specs.List.{All, filter_map}
use Rattle.std.proofs.lemmas.List.{take_all}
use Rattle.std.proofs.lemmas.List.Elements.{All-cons, All-nil}
use Rattle.engine_run.specs.Settled.{begin_of}
use Rattle.engine_run.specs.declared.work.Work.{Work}
use Rattle.engine_run.proofs.Works.{named_there, newer_more, newer_point}
use Rattle.engine_run.proofs.check_ages.check_points.Goals as goal
use Rattle.engine_run.proofs.check_ages.check_points.Goals.{in-Pointed+else-point-bound, in_default}

pub returns-then-point-bound-clause-err : goal.returns-then-point-bound-clause-err
returns-then-point-bound-clause-err c =
    let at = c.in-Pointed.point.begin in (
      omega (arith, c.if-point-bound.true, c.bound.view_is, ap (λ p. p.begin) c.point.view_is),
      named_there begin_of c.args.works.now c.loop-work.work-index at c.work-item.result c.loop-work-test.true c.work-item.is
          (ap (λ (w : Work). filter_map begin_of (w ∷ [])) c.in-Pointed.is),
    )

pub loop-work-preserved : goal.loop-work-preserved
loop-work-preserved c =
    let P : _ → Type 0 = λ lsn. c.args.bound ≤ lsn in
    let w = c.work-item.result in
    newer_more begin_of P c.args.works.now c.loop-work.work-index w c.loop-work-test.true c.work-item.is c.loop-work.invariant
    (elim c.match-work.branch [
      | in-Pointed+else-point-bound b ↦
          subst (λ (v : Work). All P (filter_map begin_of (v ∷ []))) (sym b.in-Pointed.is)
          (All-cons P b.in-Pointed.point.begin [] (omega (arith, b.if-point-bound.false, c.bound.view_is, ap (λ p. p.begin) b.point.view_is))
          (All-nil P))
      | in_default b ↦ newer_point P w (λ point is. absurd (b.in_default.not-Pointed point is))
    ])

pub returns-clause-ok : goal.returns-clause-ok
returns-clause-ok c =
    let past = c.loop-work-test.false in
    let all = take_all c.loop-work.work-index c.args.works.now (omega arith) in
    subst (λ (ws : List Work). All (λ lsn. c.args.bound ≤ lsn) (filter_map begin_of ws)) all c.loop-work.invariant
