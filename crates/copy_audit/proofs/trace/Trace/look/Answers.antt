use Rattle.copy_audit.proofs.trace.Trace.look.Goals as goal

pub returns-clause-traced : goal.returns-clause-traced
returns-clause-traced c = λ rs of was. (c.is_past-is_past.ensures.seen rs of was).traced

pub returns-clause-reach : goal.returns-clause-reach
returns-clause-reach c = λ rs of was.
    c.reach.ensures rs c.args.number c.args.count c.args.page.now (c.is_past-is_past.ensures.seen rs of was) of
