use Rattle.saved_files.specs.PutFault.{bytes_by}
use Rattle.saved_files.proofs.Crashes.{as_it_stands, meanwhile}
use Rattle.saved_files.proofs.laws.a_crash_leaves_the_older_file_or_the_new_one.Goals as goal

pub returns-clause-meanwhile : goal.returns-clause-meanwhile
returns-clause-meanwhile g c name source before between after old left stored is whole too may =
    meanwhile name (bytes_by (g.S.Source.gives source)) (g.F.Folder.may_leave before) (g.F.Folder.may_leave between)
    (g.F.Folder.may_leave after) old left _ _ (g.met.F.Folder.lasts before stored) is whole too may

pub returns-clause-stored : goal.returns-clause-stored
returns-clause-stored g c after new left stored is may =
    as_it_stands (g.F.Folder.may_leave after) new left _ (g.met.F.Folder.lasts after stored) is may
