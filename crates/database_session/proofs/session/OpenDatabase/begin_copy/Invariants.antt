use Rattle.std.proofs.Common.{◌≡◌, ◌≤◌, length}
use Rattle.database_session.proofs.CopyCalls.{HasPassed}
use Rattle.database_session.proofs.session.OpenDatabase.begin_copy.Given as goal

abbrev pub invariant-loop : goal.invariant-loop
invariant-loop g l =
    HasPassed l.parent l.initial.self.unread.items l.counter l.initial.self.engine.state l.self.engine.state
    × (l.self.folder ≡ l.initial.self.folder) × (l.self.unread ≡ l.initial.self.unread)
    × (l.counter ≤ length l.initial.self.unread.items)
