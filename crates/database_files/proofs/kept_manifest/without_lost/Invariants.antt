use Rattle.std.proofs.Common.{◌≡◌}
use Rattle.database_files.specs.Kept.{KeepsLines}
use Rattle.database_files.proofs.kept_manifest.without_lost.Given as goal

abbrev pub invariant-loop : goal.invariant-loop
invariant-loop g l = (l.manifest.database ≡ l.initial.manifest.database)
    × KeepsLines (g.F.Folder.entries l.folder) l.initial.manifest.entries l.manifest.entries
