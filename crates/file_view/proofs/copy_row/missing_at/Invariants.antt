use Rattle.std.proofs.Common.{◌≡◌, drop}
use Rattle.file_view.specs.CopyRows.{lacking_at}
use Rattle.file_view.proofs.copy_row.missing_at.Given as goal

abbrev pub invariant-loop-row : goal.invariant-loop-row
invariant-loop-row l = lacking_at l.id (drop l.row-index l.rows) ≡ lacking_at l.id l.rows
