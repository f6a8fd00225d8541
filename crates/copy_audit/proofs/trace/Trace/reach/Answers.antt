use Rattle.std.proofs.Common.{◌∙◌, ◌<◌, length, arith}
use Rattle.page_core.specs.declared.change.Change.TheVariants.{Add}
use Rattle.page_redo.specs.Placed.{Placed}
use Rattle.copy_audit.proofs.OnPage.{change_is, same_length}
use Rattle.copy_audit.proofs.Traces.{reach_of}
use Rattle.copy_audit.proofs.trace.Trace.reach.Goals as goal

pub returns : goal.returns
returns c = λ rs number count page seen of.
    let it = c.args.self.now in
    let cs = c.args.changes.now in
    let d : Placed = record { lsn = 0; page = 0; slot = 0; change = Add 0 } in
    let long = same_length rs number count cs of in
    reach_of (record { pages = of.pages; records = rs }) number page it c.args.is_past c.next_change-last.result of.valid seen
    (λ some.
    let there : it.done < length cs = omega (arith, long, some) in
    c.next_change-last.ensures.next d there ∙ (change_is rs number count it.done cs d of there).lsn)
    (λ none. c.next_change-last.ensures.none (omega (arith, long, none)))
