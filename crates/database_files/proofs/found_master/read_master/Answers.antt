use Rattle.std.proofs.Common.{ℕ, arith, subst}
use Rattle.std.specs.Prelude.{codes, IfSome}
use Rattle.log_store.specs.Master.{SpellsMaster}
use Rattle.database_files.specs.Master.{spelled}
use Rattle.database_files.proofs.Founds.{first_found, is_short_master}
use Rattle.database_files.specs.DatabaseFolder.{BeginsIn}
use Rattle.database_files.specs.declared.database_folder.Standing.{Standing}
use Rattle.database_files.proofs.found_master.read_master.Goals as goal

pub returns-in-Ok-File-clause-found : goal.returns-in-Ok-File-clause-found
returns-in-Ok-File-clause-found g c = λ told.
    let entries = g.F.Folder.entries c.args.folder.now in
    first_found SpellsMaster 65 entries (codes "master") c.read_first.new.bytes
    c.first_of.result.now c.in-Ok-File.len (spelled c.master_in.result) is_short_master (omega arith) c.first_of.ensures
    (subst (λ (it : Standing ℕ). IfSome entries (λ there. BeginsIn it c.read_first.new.bytes (there (codes "master")))) c.in-Ok-File.field-0-is
    c.in-Ok-File.ensures) c.master_in.ensures.read
