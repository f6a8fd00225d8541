use Rattle.std.proofs.Common.{inl}
use Rattle.saved_files.proofs.MemFolders.{leaves_but, removed}
use Rattle.saved_files.proofs.mem_folder.MemFolder.remove.Goals as goal

pub returns-clause-removed : goal.returns-clause-removed
returns-clause-removed c =
    removed c.args.name.now c.args.self.now.files c.remove.new.self c.remove.ensures.updates

pub returns-clause-crash : goal.returns-clause-crash
returns-clause-crash c =
    leaves_but c.args.name.now c.args.self.now.files c.remove.new.self c.args.self.now.past.items
    c.args.self.now.past.items c.requires
    (removed c.args.name.now c.args.self.now.files c.remove.new.self c.remove.ensures.updates).others
    (λ n e had. had) (λ q e had. inl had)
