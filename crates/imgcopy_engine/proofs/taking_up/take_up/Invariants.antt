use Rattle.std.proofs.Common.{◌≡◌}
use Rattle.imgcopy_engine.specs.Taken.{TakesUp}
use Rattle.imgcopy_engine.proofs.taking_up.take_up.Given as goal

-- of the same log, with its pages, each copy so far is taken up or refused
abbrev pub invariant-loop-copy : goal.invariant-loop-copy
invariant-loop-copy l = record {
  log : l.restarted.log ≡ l.initial.restarted.log;
  pages : l.restarted.pages ≡ l.initial.restarted.pages;
  taken : TakesUp l.initial.restarted.log l.yielded l.refused.items l.restarted.copies;
}
