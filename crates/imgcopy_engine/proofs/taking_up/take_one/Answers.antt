use Rattle.std.proofs.Common.{ap, sym, ◌∙◌}
use Rattle.std.proofs.lemmas.Bool.{false≢true}
use Rattle.copy_vault.specs.Copy.{CopyView}
use Rattle.imgcopy_engine.specs.Taken.{left}
use Rattle.imgcopy_engine.proofs.taking_up.take_one.Goals as goal

pub returns-clause-judged : goal.returns-clause-judged
returns-clause-judged c =
    left _
    (record {
      id = c.id.ensures ∙ ap (λ (it : CopyView). it.id) c.in-Err.ensures.back;
      no_want = λ of. false≢true (sym c.if-is_of_memory.false ∙ c.is_of_memory.ensures.1 of);
      why = c.in-Err.ensures.why;
    })
    c.in-Err.ensures.same c.in_ok-push.ensures.items
