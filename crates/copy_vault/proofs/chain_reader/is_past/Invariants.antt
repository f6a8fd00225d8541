use Rattle.std.proofs.Common.{ℕ, ◌<◌, get_or}
use Rattle.copy_vault.specs.declared.archive_cursor.ArchiveCursor.{ArchiveCursor}
use Rattle.copy_vault.proofs.chain_reader.is_past.Given as goal

abbrev pub invariant-loop-i : goal.invariant-loop-i
invariant-loop-i l = record {
  below : (k : ℕ) (it : ArchiveCursor) → k < l.i → (get_or l.cursors k it).header.redo < l.fn.end;
}
