use Rattle.std.proofs.Common.{◌≡◌, map, take}
use Rattle.std.specs.Prelude.{IfSome}
use Rattle.std.specs.List.{All}
use Rattle.database_files.specs.Found.{IsCopyIn, IsUnreadOnceTried}
use Rattle.database_files.proofs.found_copies.read_copies.Given as goal

abbrev pub invariant-loop-id : goal.invariant-loop-id
invariant-loop-id g l = record {
  ids : map (λ file. file.id) l.copies.items ≡ take l.id-index l.ids;
  found : IfSome (g.F.Folder.entries l.folder) (λ there. All (IsCopyIn there) l.copies.items);
  tried : All (IsUnreadOnceTried (g.F.DatabaseFolder.was_asked l.folder)) l.copies.items;
}
