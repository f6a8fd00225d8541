use Rattle.std.proofs.Common.{◌≡◌}
use Rattle.saved_files.specs.Folder.{Changes, IsSame, LeavesEither}
use Rattle.saved_files.proofs.put_file.make_beside.Given as goal

abbrev pub invariant-loop-number : goal.invariant-loop-number
invariant-loop-number g l = record {
  same : Changes IsSame (g.F.Folder.entries l.fn.folder) (g.F.Folder.entries l.folder);
  crash : Changes (LeavesEither (g.F.Folder.may_leave l.fn.folder) (g.F.Folder.may_leave l.folder))
      (g.F.Folder.entries l.fn.folder) (g.F.Folder.entries l.folder);
  given_up : g.F.Folder.given_up l.folder ≡ g.F.Folder.given_up l.fn.folder;
  claimed : g.F.Folder.is_claimed l.folder;
}
