use Rattle.std.proofs.Common.{◌≡◌, ℕ, ◌∷◌, [], sym, subst}
use Rattle.log_records.specs.declared.record.Record.TheVariants.{BeginChkpt}
use Rattle.log_records.specs.Log.{Log, with_next}
use Rattle.fuzzy_ckpt.specs.Ckpt.{CkptView, IsCkptOf, Phase, in_pages}
use Rattle.fuzzy_ckpt.specs.Steps.{end_of, new_ckpt}
use Rattle.fuzzy_ckpt.proofs.Ends.{begun_is}
use Rattle.fuzzy_ckpt.proofs.ckpt.Ckpt+Pages.begin.Goals as goal

pub returns-clause-ckpt : goal.returns-clause-ckpt
returns-clause-ckpt g c =
    let log = c.args.log.now.log in
    let now : CkptView Phase = record {
      begin = c.end-begin.result;
      pages = c.pages-pages.result;
      redo = c.end-begin.result;
      phase = in_pages 0;
    } in
    let view : now ≡ new_ckpt log = λ i. record {
      begin = c.end-begin.ensures i;
      pages = c.pages-pages.ensures i;
      redo = c.end-begin.ensures i;
      phase = in_pages 0;
    } in
    subst (λ (l : Log). IsCkptOf l now) (sym c.in_ok-append.ensures.ok)
    (subst (λ (n : ℕ). IsCkptOf (with_next log (BeginChkpt n ∷ [])) now) (sym c.end-begin.ensures)
    (subst (IsCkptOf (with_next log (BeginChkpt (end_of log.records) ∷ []))) (sym view) (begun_is log)))
