use Rattle.std.proofs.Common.{◌≡◌, ◌+◌}
use Rattle.saved_files.specs.Folder.{Changes}
use Rattle.saved_files.specs.Saved.{AreSavedBefore, parts_of}
use Rattle.saved_files.proofs.save.save_all.Given as goal

abbrev pub invariant-loop-id : goal.invariant-loop-id
invariant-loop-id g l = record {
  saved : Changes (AreSavedBefore (parts_of l.retired) (2 + l.id)) (g.F.Folder.entries l.fn.folder)
      (g.F.Folder.entries l.folder);
  given_up : g.F.Folder.given_up l.folder ≡ g.F.Folder.given_up l.fn.folder;
  claimed : g.F.Folder.is_claimed l.folder;
}
