use Rattle.std.proofs.Common.{subst, ◌∙◌}
use Rattle.std.specs.Prelude.{IfSome}
use Rattle.saved_files.specs.Folder.{LeavesAsIs}
use Rattle.open_database.proofs.power_laws.power_cuts_lose_no_told_file.Goals as goal

pub returns : goal.returns
returns g c folder entries left name bytes is_stored is may has =
    let leaves : LeavesAsIs (g.F.Folder.may_leave folder) entries =
    subst (λ x. IfSome x (LeavesAsIs (g.F.Folder.may_leave folder))) is (g.met.F.Folder.lasts folder is_stored) in
    leaves name (left name) (may name) ∙ has
