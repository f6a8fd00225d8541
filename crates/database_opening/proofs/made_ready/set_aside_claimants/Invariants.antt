use Rattle.std.proofs.Common.{take}
use Rattle.saved_files.specs.Folder.{Changes}
use Rattle.database_files.specs.Closed.{KeepsNote}
use Rattle.database_files.specs.MovedAside.{AreSetAside, KeepsOrPutsAside}
use Rattle.database_opening.proofs.made_ready.set_aside_claimants.Given as goal

abbrev pub invariant-loop-claim : goal.invariant-loop-claim
invariant-loop-claim g l = g.F.Folder.is_claimed l.folder
    × AreSetAside (g.F.Folder.entries l.initial.folder) (take l.claim-index l.claims) (g.F.Folder.entries l.folder)
    × Changes KeepsOrPutsAside (g.F.Folder.entries l.initial.folder) (g.F.Folder.entries l.folder)
    × KeepsNote (g.F.Folder.entries l.initial.folder) (g.F.Folder.entries l.folder)
