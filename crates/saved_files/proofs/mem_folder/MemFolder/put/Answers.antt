use Rattle.saved_files.proofs.MemFolders.{put_leaves}
use Rattle.saved_files.proofs.mem_folder.MemFolder.put.Goals as goal

pub returns-clause-crash : goal.returns-clause-crash
returns-clause-crash c =
    rw c.set.ensures.past
    (put_leaves c.args.name.now _ c.args.self.now.files c.remember.new.self.files c.set.new.self.files
    c.args.self.now.past.items c.remember.new.self.past.items c.set.result c.remember.ensures.files
    c.in_ok-remember.ensures.had c.remember.ensures.past c.remember.ensures.only c.set.ensures.put c.set.ensures.same)
