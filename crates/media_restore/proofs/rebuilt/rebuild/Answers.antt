use Rattle.std.proofs.Common.{◌≡◌, subst, sym}
use Rattle.std.specs.Prelude.{Result, Ok, Err, IfErr, IsErrAnd}
use Rattle.media_restore.proofs.Rebuilds.{rebuilt_of}
use Rattle.media_restore.proofs.rebuilt.rebuild.Goals as goal

pub returns-clause-rebuilt : goal.returns-clause-rebuilt
returns-clause-rebuilt g c =
    let played = c.in_ok-replies.field-0 in
    let kept = c.in_ok-replies.ensures in
    let left = c.retire.ensures in
    let came = c.recover-outcome.ensures in (
      played.engine,
      kept.played,
      rebuilt_of c.args.setup.pages c.args.setup.frames c.args.events.now c.args.copy c.args.cut played.replies.items
          c.recover-outcome.result played.engine.state c.retire.result kept.run kept.work kept.catalogue left.log
          left.forced_end left.copies left.master came.ok came.err came.kept came.restored came.master,
    )

-- what is said of an error that was handed on
handed_on : {T E : Type 0} (r : Result T E) (e : E) (Q : E → Type 0) → IsErrAnd r (λ f. f ≡ e) → Q e → IfErr r Q
handed_on (Ok x) e Q is h = tt
handed_on (Err f) e Q is h = subst Q (sym is) h

pub returns-in_err-replies-clause-cause : goal.returns-in_err-replies-clause-cause
returns-in_err-replies-clause-cause g c =
    handed_on c.from_residual.result c.in_err-replies.field-0.0 _ c.from_residual.ensures.1 c.in_err-replies.ensures.cause
