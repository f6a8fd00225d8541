use Rattle.engine_run.specs.Replies.{MadeOn}
use Rattle.engine_run.proofs.Copying.{copied_alone, copy_refused}
use Rattle.engine_run.proofs.shared.Shared.copy_alone.Goals as goal

pub returns-clause-copied : goal.returns-clause-copied
returns-clause-copied g c =
    let taken = c.take_in_order-taken in
    copied_alone (MadeOn g.S.PageStore g.D.LogDevice) c.args.kind c.in_ok-id.id c.in_ok-id.pages c.in_ok-id.ensures.opened
    c.end_copy.result taken.result taken.ensures.taken c.end_copy.ensures.untaken c.end_copy.ensures.sealed

pub returns-clause-refused : goal.returns-clause-refused
returns-clause-refused g c =
    let taken = c.take_in_order-taken in
    copy_refused (MadeOn g.S.PageStore g.D.LogDevice) c.args.kind c.in_ok-id.id c.in_ok-id.pages c.in_ok-id.ensures.opened
    c.end_copy.result taken.result taken.ensures.refused c.end_copy.ensures.refused
