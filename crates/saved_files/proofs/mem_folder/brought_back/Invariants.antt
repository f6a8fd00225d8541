use Rattle.std.proofs.Common.{vec_len}
use Rattle.saved_files.specs.Folder.{LeavesToo}
use Rattle.saved_files.specs.MemFolder.{remains_of}
use Rattle.saved_files.proofs.mem_folder.brought_back.Given as goal

abbrev pub invariant-loop-earlier : goal.invariant-loop-earlier
invariant-loop-earlier l =
    LeavesToo (remains_of l.left l.past.items) (remains_of l.fn.files l.fn.past.items)

abbrev pub decreases-loop-earlier : goal.decreases-loop-earlier
decreases-loop-earlier l = vec_len l.past
