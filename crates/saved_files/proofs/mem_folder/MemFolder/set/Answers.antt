use Rattle.std.specs.Prelude.{string_bytes}
use Rattle.saved_files.proofs.MemFolders.{put}
use Rattle.saved_files.proofs.mem_folder.MemFolder.set.Goals as goal

pub returns-clause-put : goal.returns-clause-put
returns-clause-put c =
    put c.args.name.now (string_bytes c.in_ok-name.name) c.args.self.now.files c.insert.new.self c.args.file
    c.in_ok-name.ensures.ok c.in_ok-insert.ensures.updates
