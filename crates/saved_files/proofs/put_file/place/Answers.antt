use Rattle.std.proofs.Common.{◌≡◌}
use Rattle.std.specs.Prelude.{Some}
use Rattle.saved_files.proofs.Crashes.{left_taken, taken, taken_ok}
use Rattle.saved_files.proofs.put_file.place.Goals as goal

pub returns-in-Err-clause-crash : goal.returns-in-Err-clause-crash
returns-in-Err-clause-crash g c =
    left_taken c.args.beside.now c.args.name.now (λ bytes. g.F.Folder.holds c.args.file.now ≡ Some bytes) _ _ _ _
    c.in-Err.ensures.others c.sync.ensures.crash

pub returns-in-Ok-clause-crash : goal.returns-in-Ok-clause-crash
returns-in-Ok-clause-crash g c =
    taken_ok c.args.beside.now c.args.name.now (g.F.Folder.holds c.args.file.now) _ _ _ _ _ _
    c.in_default.ensures.synced c.sync.ensures.crash c.in-Ok.ensures.renamed c.rename.ensures.crash

pub returns-in-Err-rename-clause-crash : goal.returns-in-Err-rename-clause-crash
returns-in-Err-rename-clause-crash g c =
    taken c.args.beside.now c.args.name.now (g.F.Folder.holds c.args.file.now) _ _ _ _ _ _
    c.in_default.ensures.synced c.sync.ensures.crash c.in-Err-rename.ensures.either c.rename.ensures.crash
