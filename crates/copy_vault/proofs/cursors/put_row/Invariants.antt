use Rattle.std.proofs.Common.{◌≡◌, ◌<◌, ℕ, length, get_or}
use Rattle.std.specs.Prelude.{Option}
use Rattle.page_core.specs.declared.page.Page.{Page}
use Rattle.copy_vault.specs.declared.archive_cursor.ArchiveCursor.{ArchiveCursor}
use Rattle.copy_vault.specs.ChainRead.{hand_at, place_list}
use Rattle.copy_vault.proofs.cursors.put_row.Given as goal

abbrev pub invariant-loop-i : goal.invariant-loop-i
invariant-loop-i l = record {
  count : length l.row ≡ length l.cursors;
  full : (k : ℕ) (place : Option Page) (it : ArchiveCursor) → k < l.i
      → place_list (get_or l.row k place) ≡ hand_at (get_or l.cursors k it).page l.number;
}
