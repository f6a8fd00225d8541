use Rattle.std.proofs.Common.{take}
use Rattle.std.specs.Prelude.{IsTrue}
use Rattle.folder_reports.specs.Sound.{AreHeadersOf}
use Rattle.folder_reports.proofs.verify.headers_of.Given as goal

abbrev pub invariant-loop-id : goal.invariant-loop-id
invariant-loop-id g l = IsTrue l.are_all
    → AreHeadersOf (g.F.DatabaseFiles.entries l.folder) (take l.id-index l.ids) l.headers.items
