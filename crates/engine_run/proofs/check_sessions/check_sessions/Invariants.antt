use Rattle.std.proofs.Common.{◌≡◌, length, take}
use Rattle.std.specs.List.{All}
use Rattle.settlement.specs.Marks.{AreMarked}
use Rattle.settlement.specs.Receipt.{written}
use Rattle.settlement.specs.Session.{AllStand}
use Rattle.settlement.specs.Sessions.{all_receipts}
use Rattle.engine_run.proofs.check_sessions.check_sessions.Given as goal

-- the receipts of the sessions so far stand, and their records are marked
abbrev pub invariant-loop-session : goal.invariant-loop-session
invariant-loop-session g l = record {
  pages : length l.pages ≡ length l.fn.pages;
  marks : length l.marks ≡ length l.records;
  stand : All (AllStand l.records l.forced_end) (take l.session-index l.sessions);
  marked : AreMarked l.marks (written (all_receipts (take l.session-index l.sessions)));
}
