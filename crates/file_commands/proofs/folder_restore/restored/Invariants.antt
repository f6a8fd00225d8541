use Rattle.std.proofs.Common.{◌≤◌}
use Rattle.std.specs.Prelude.{IfSome}
use Rattle.std.specs.Process.{exit_status}
use Rattle.file_commands.proofs.folder_restore.restored.Given as goal

abbrev pub invariant-loop : goal.invariant-loop
invariant-loop g l = IfSome l.first (λ status. exit_status status ≤ 2)
