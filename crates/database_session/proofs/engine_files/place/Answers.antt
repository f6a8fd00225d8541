use Rattle.std.proofs.Common.{◌∙◌, List, ℕ, subst}
use Rattle.saved_files.specs.Folder.{Changes, LeavesWhole}
use Rattle.saved_files.specs.PutFault.{bytes_by}
use Rattle.database_files.proofs.Public.{whole_kept}
use Rattle.database_session.proofs.engine_files.place.Goals as goal

pub returns-clause-crash : goal.returns-clause-crash
returns-clause-crash g c =
    let entries = g.F.Folder.entries in
    let may_leave = g.F.Folder.may_leave in
    let fits = bytes_by (g.S.Source.gives c.args.source.now) in
    whole_kept _ fits (may_leave c.args.folder.now) (may_leave c.put_in_place.new.folder)
    (may_leave c.sync_names.new.self) (entries c.args.folder.now) (entries c.put_in_place.new.folder)
    (entries c.sync_names.new.self) (g.met.F.Folder.stands c.put_in_place.new.folder)
    (subst (λ (name : List ℕ). Changes
    (LeavesWhole name fits (may_leave c.args.folder.now) (may_leave c.put_in_place.new.folder))
    (entries c.args.folder.now) (entries c.put_in_place.new.folder))
    (c.as_str.ensures.value ∙ c.in-Ok.ensures.ok) c.put_in_place.ensures.crash)
    c.sync_names.ensures.same c.in-Err-sync_names.ensures.crash
