use Rattle.std.proofs.Common.{ℕ, ◌<◌, get_or}
use Rattle.std.specs.Prelude.{IsTrue}
use Rattle.folder_reports.specs.Summed.{IsRight}
use Rattle.folder_reports.specs.declared.summed_files.SummedFile.{SummedFile}
use Rattle.folder_reports.proofs.summed_files.tell_all.Given as goal

abbrev pub invariant-loop-file : goal.invariant-loop-file
invariant-loop-file l = IsTrue l.are_right → (k : ℕ) (d : SummedFile) → k < l.file-index → IsRight (get_or l.files k d)
