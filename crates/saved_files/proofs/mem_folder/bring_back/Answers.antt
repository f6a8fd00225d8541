use Rattle.std.proofs.Common.{refl}
use Rattle.std.specs.String.{string_bytes}
use Rattle.saved_files.proofs.MemFolders.{gone, put}
use Rattle.saved_files.proofs.mem_folder.bring_back.Goals as goal

pub returns-in_ok-insert-in-Some : goal.returns-in_ok-insert-in-Some
returns-in_ok-insert-in-Some c =
    rw c.in-Some.is
    (put (string_bytes c.args.earlier.name) _ c.args.files.now c.insert.new.self c.in-Some.file refl
    c.in_ok-insert-in-Some.ensures.updates)

pub returns-in-None : goal.returns-in-None
returns-in-None c =
    rw c.in-None.is
    (gone (string_bytes c.args.earlier.name) c.as_str.result.now c.args.files.now c.remove.new.self
    c.as_str.ensures.value c.remove.ensures.updates)
