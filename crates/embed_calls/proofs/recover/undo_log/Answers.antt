use Rattle.embed_calls.proofs.recover.undo_log.Goals as goal

pub returns-in-Ok-clause-ok : goal.returns-in-Ok-clause-ok
returns-in-Ok-clause-ok c = (
  c.in_ok-redone.redone.log,
  c.in-Ok.ensures c.args.log.now c.in_ok-redone.ensures.ok,
)
