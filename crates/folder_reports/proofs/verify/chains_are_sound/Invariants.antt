use Rattle.std.proofs.Common.{ℕ, ◌<◌, get_or}
use Rattle.std.specs.Prelude.{IsTrue}
use Rattle.file_view.specs.declared.copy_header.CopyHeader.{CopyHeader}
use Rattle.folder_reports.specs.Sound.{IsAudited}
use Rattle.folder_reports.proofs.verify.chains_are_sound.Given as goal

abbrev pub invariant-loop-header : goal.invariant-loop-header
invariant-loop-header g l = IsTrue l.are_sound → (k : ℕ) (d : CopyHeader) → k < l.header-index
    → IsAudited (g.F.DatabaseFiles.entries l.folder) (get_or l.headers k d).id
