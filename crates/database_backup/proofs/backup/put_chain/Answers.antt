use Rattle.std.proofs.Common.{◌∙◌, ℕ, List, ap, subst}
use Rattle.std.specs.Prelude.{OnOk}
use Rattle.copy_vault.specs.Vault.{CopyState}
use Rattle.saved_files.specs.Folder.{Changes}
use Rattle.database_backup.specs.Backups.{IsBackup, KeepsTheRest, chain_from}
use Rattle.database_backup.proofs.backup.put_chain.Goals as goal

pub returns-clause-put : goal.returns-clause-put
returns-clause-put g c =
    let first = g.F.Folder.entries c.args.session.now.folder in
    let old = g.G.Folder.entries c.args.folder.now in
    let new = g.G.Folder.entries c.put_beside.new.folder in
    subst (λ (ids : List ℕ). OnOk c.put_beside.result
    (Changes (IsBackup first ids c.args.kept.now.manifest.database) old new))
    (c.deref.ensures.value ∙ c.in_ok-chain.ensures
    ∙ ap (λ (copies : List CopyState). chain_from copies c.args.id) c.copies.ensures)
    (subst (λ (name : List ℕ). OnOk c.put_beside.result
    (Changes (IsBackup first c.deref.result.now name) old new)) c.database-database.ensures c.put_beside.ensures.put)

pub returns-clause-rest : goal.returns-clause-rest
returns-clause-rest g c =
    let first = g.F.Folder.entries c.args.session.now.folder in
    let old = g.G.Folder.entries c.args.folder.now in
    let new = g.G.Folder.entries c.put_beside.new.folder in
    subst (λ (ids : List ℕ). Changes (KeepsTheRest first ids c.args.kept.now.manifest.database) old new)
    (c.deref.ensures.value ∙ c.in_ok-chain.ensures
    ∙ ap (λ (copies : List CopyState). chain_from copies c.args.id) c.copies.ensures)
    (subst (λ (name : List ℕ). Changes (KeepsTheRest first c.deref.result.now name) old new)
    c.database-database.ensures c.put_beside.ensures.rest)
