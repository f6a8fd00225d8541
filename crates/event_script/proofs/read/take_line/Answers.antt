use Rattle.event_script.proofs.Scripts.{a_call, a_restore, bad_line, late, skipped_line}
use Rattle.event_script.proofs.read.take_line.Goals as goal

pub returns-in_default : goal.returns-in_default
returns-in_default c = λ lines h. bad_line lines c.args.line.now _ (cc) h

pub returns-in-Skipped : goal.returns-in-Skipped
returns-in-Skipped c = λ lines h. skipped_line lines c.args.line.now _ (cc) h

pub returns-in_default-said : goal.returns-in_default-said
returns-in_default-said c = λ lines h.
    late lines c.args.line.now _ _ _ (cc) c.in_default-said.not-Skipped (cc) h

pub returns-in_ok-push-in-Call : goal.returns-in_ok-push-in-Call
returns-in_ok-push-in-Call c = λ lines h.
    a_call lines c.args.line.now _ _ _ _ c.in_ok-push-in-Call.ensures.items (cc) (cc) h

pub returns-in-Restore : goal.returns-in-Restore
returns-in-Restore c = λ lines h. a_restore lines c.args.line.now _ _ _ (cc) (cc) h
