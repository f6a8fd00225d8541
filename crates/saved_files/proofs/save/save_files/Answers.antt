use Rattle.std.proofs.lemmas.Result.{err_from_is_err_and}
use Rattle.saved_files.specs.Saved.{parts_of}
use Rattle.saved_files.proofs.Saves.{claimed_left, claimed_saved, then_same}
use Rattle.saved_files.proofs.save.save_files.Goals as goal

pub returns-in_err-save_all-clause-left : goal.returns-in_err-save_all-clause-left
returns-in_err-save_all-clause-left g c =
    let p = err_from_is_err_and c.from_residual.result c.from_residual.ensures.1 in
    rw (p.1, p.2)
    (claimed_left (parts_of c.args.retired.now) _ _ _ _ _ _ _ c.claim.ensures.given_up c.claim.ensures.same
    c.in_err-save_all.ensures.left)

pub returns-in-Ok-clause-saved : goal.returns-in-Ok-clause-saved
returns-in-Ok-clause-saved g c =
    let parts = parts_of c.args.retired.now in
    then_same parts _ _ _ (claimed_saved parts _ _ _ c.claim.ensures.same c.in_ok-save_all.ensures.saved)
    c.sync_names.ensures.same

pub returns-in-Err-sync_names-clause-left : goal.returns-in-Err-sync_names-clause-left
returns-in-Err-sync_names-clause-left g c =
    let parts = parts_of c.args.retired.now in
    then_same parts _ _ _ (claimed_saved parts _ _ _ c.claim.ensures.same c.in_ok-save_all.ensures.saved)
    c.sync_names.ensures.same
