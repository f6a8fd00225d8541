use Rattle.std.proofs.Common.{Err, Ok, inl, refl}
use Rattle.imgcopy_engine.proofs.Calling.{returned_on}
use Rattle.imgcopy_engine.proofs.transacting.attempt.Goals as goal

pub returns-in-Ok-part : goal.returns-in-Ok-part
returns-in-Ok-part g c = inl (record {
  savepoint = c.in-Ok.savepoint;
  named = c.in-Ok.ensures.called;
  outcome = Ok c.in-Ok-part.value;
  worked = c.part.new.arg2;
  done = returned_on g.F.FnOnce c.in-Ok-part.ensures;
  ends = (refl, refl);
})

pub returns-in-Ok-step_back : goal.returns-in-Ok-step_back
returns-in-Ok-step_back g c = inl (record {
  savepoint = c.in-Ok.savepoint;
  named = c.in-Ok.ensures.called;
  outcome = Err c.in-Err-part.stop;
  worked = c.part.new.arg2;
  done = returned_on g.F.FnOnce c.in-Err-part.ensures;
  ends = (refl, c.in-Ok-step_back.ensures.reached);
})

pub returns-in-Err-step_back : goal.returns-in-Err-step_back
returns-in-Err-step_back g c = inl (record {
  savepoint = c.in-Ok.savepoint;
  named = c.in-Ok.ensures.called;
  outcome = Err c.in-Err-part.stop;
  worked = c.part.new.arg2;
  done = returned_on g.F.FnOnce c.in-Err-part.ensures;
  ends = (refl, c.in-Err-step_back.ensures.refused);
})
