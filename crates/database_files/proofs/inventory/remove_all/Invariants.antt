use Rattle.std.proofs.Common.{map, string_bytes}
use Rattle.saved_files.specs.Folder.{Changes}
use Rattle.database_files.specs.Standing.{KeepsAllBut}
use Rattle.database_files.proofs.inventory.remove_all.Given as goal

abbrev pub invariant-loop-name : goal.invariant-loop-name
invariant-loop-name g l = record {
  claimed : g.F.Folder.is_claimed l.folder;
  others : Changes (KeepsAllBut (map string_bytes l.names)) (g.F.Folder.entries l.initial.folder)
      (g.F.Folder.entries l.folder);
}
