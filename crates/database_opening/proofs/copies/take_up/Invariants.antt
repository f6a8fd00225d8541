use Rattle.std.proofs.Common.{◌≡◌}
use Rattle.database_opening.specs.Copies.{TakesUp, ids_unread}
use Rattle.database_opening.proofs.copies.take_up.Given as goal

abbrev pub invariant-loop-file : goal.invariant-loop-file
invariant-loop-file l = record {
  log : l.restarted.log ≡ l.initial.restarted.log;
  pages : l.restarted.pages ≡ l.initial.restarted.pages;
  taken : TakesUp l.end l.initial.restarted l.yielded l.restarted;
  unread : l.unread.items ≡ ids_unread l.yielded;
}
