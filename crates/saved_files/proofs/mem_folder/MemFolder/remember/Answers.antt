use Rattle.saved_files.proofs.MemFolders.{keeps_it, keeps_only, keeps_past}
use Rattle.saved_files.specs.MemFolder.{entries_of}
use Rattle.saved_files.proofs.mem_folder.MemFolder.remember.Goals as goal

pub returns-clause-had : goal.returns-clause-had
returns-clause-had c =
    keeps_it c.args.self.now.past.items _ _ c.args.name.now _ c.in_ok-push.ensures.items c.in_ok-name.ensures.ok
    c.in_ok-file.ensures

pub returns-clause-past : goal.returns-clause-past
returns-clause-past c = keeps_past c.args.self.now.past.items _ _ c.in_ok-push.ensures.items

pub returns-clause-only : goal.returns-clause-only
returns-clause-only c =
    keeps_only c.args.self.now.past.items _ _ c.args.name.now (entries_of c.args.self.now.files)
    c.in_ok-push.ensures.items c.in_ok-name.ensures.ok c.in_ok-file.ensures
