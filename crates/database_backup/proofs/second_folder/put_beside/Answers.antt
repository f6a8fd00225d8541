use Rattle.std.proofs.Common.{◌∙◌, List, ℕ, subst, sym}
use Rattle.std.specs.Prelude.{IfSome}
use Rattle.saved_files.specs.Folder.{Changes}
use Rattle.saved_files.specs.Saved.{name_of}
use Rattle.saved_files.specs.declared.saved_name.SavedName.TheVariants as saved
use Rattle.database_backup.specs.Backups.{IsBackup, IsOfSame, PutsManifestLast}
use Rattle.database_files.specs.DatabaseFolder.{HasBytes}
use Rattle.database_files.proofs.Public.{on_ok}
use Rattle.database_backup.proofs.SecondFolders.{backup_cleared, cleared, of_database_same, of_same_cleared}
use Rattle.database_backup.proofs.SecondFolders.{rest_cleared, rest_filled}
use Rattle.database_backup.proofs.second_folder.put_beside.Goals as goal

pub returns-in_err-clear-clause-rest : goal.returns-in_err-clear-clause-rest
returns-in_err-clear-clause-rest g c =
    let first = g.O.Folder.entries c.args.from.now in
    rest_cleared first c.deref.result.now c.args.copies.now c.args.database.0 (g.F.Folder.entries c.args.folder.now)
    (g.F.Folder.entries c.claim_or_wait.new.self) (g.F.Folder.entries c.clear.new.folder)
    (subst (HasBytes first (name_of saved.Log)) (sym c.deref.ensures.value) c.in_ok-log.ensures)
    c.claim_or_wait.ensures.same c.in_ok-check_all.ensures c.clear.ensures.kept

pub fill-requires-clause-same : goal.fill-requires-clause-same
fill-requires-clause-same g c =
    let first = g.O.Folder.entries c.args.from.now in
    subst (λ (log : List ℕ). IfSome (g.F.Folder.entries c.clear.new.folder) (IsOfSame first log c.args.copies.now))
    (c.deref.ensures.value ∙ sym c.deref-2.ensures.value)
    (of_same_cleared first c.deref.result.now c.args.copies.now (g.F.Folder.entries c.claim_or_wait.new.self)
    (g.F.Folder.entries c.clear.new.folder) c.in_ok-check_all.ensures c.clear.ensures.kept)

pub returns-clause-put : goal.returns-clause-put
returns-clause-put g c =
    let first = g.O.Folder.entries c.args.from.now in
    let old = g.F.Folder.entries c.args.folder.now in
    let mid = g.F.Folder.entries c.clear.new.folder in
    let new = g.F.Folder.entries c.fill.new.folder in
    on_ok c.fill.result (λ put. backup_cleared first c.args.copies.now c.args.database.0 old mid new
    (cleared old (g.F.Folder.entries c.claim_or_wait.new.self) mid c.claim_or_wait.ensures.same c.clear.ensures.kept)
    (subst (λ (name : List ℕ). Changes (IsBackup first c.args.copies.now name) mid new) c.in_ok-manifest.ensures.database put))
    c.fill.ensures.put

pub returns-clause-rest : goal.returns-clause-rest
returns-clause-rest g c =
    let first = g.O.Folder.entries c.args.from.now in
    let mid = g.F.Folder.entries c.clear.new.folder in
    let new = g.F.Folder.entries c.fill.new.folder in
    rest_filled first c.deref.result.now c.args.copies.now c.args.database.0 (g.F.Folder.entries c.args.folder.now)
    (g.F.Folder.entries c.claim_or_wait.new.self) mid new
    (subst (HasBytes first (name_of saved.Log)) (sym c.deref.ensures.value) c.in_ok-log.ensures)
    c.claim_or_wait.ensures.same c.in_ok-check_all.ensures c.clear.ensures.kept
    (subst (λ (name : List ℕ). Changes (PutsManifestLast first c.args.copies.now name) mid new)
    c.in_ok-manifest.ensures.database c.fill.ensures.last) c.fill.ensures.older c.fill.ensures.others

pub returns-clause-of_this : goal.returns-clause-of_this
returns-clause-of_this g c =
    on_ok c.fill.result (λ put. of_database_same c.args.database.0 (g.F.Folder.entries c.args.folder.now)
    (g.F.Folder.entries c.claim_or_wait.new.self) c.claim_or_wait.ensures.same c.in_ok-manifest.ensures.of_this)
    c.fill.ensures.put
