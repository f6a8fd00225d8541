use Rattle.saved_files.proofs.MemFolders.{undone_leaves}
use Rattle.saved_files.proofs.mem_folder.brought_back.Goals as goal

pub loop-earlier-preserved : goal.loop-earlier-preserved
loop-earlier-preserved c = λ n e it.
    c.loop-earlier.invariant n e
    (undone_leaves c.loop-earlier.left c.undo.new.files c.pop.new.self.items _ _ c.in-Some.ensures.items
    c.in_ok-undo.ensures n e it)
