use Rattle.std.proofs.Common.{IfErr, [], codes, refl, subst, sym, ◌∷◌}
use Rattle.command_words.specs.Command.{ExplainsRead, audit_app, backup_app, list_app, open_app, redo_into_app, renew_app}
use Rattle.command_words.specs.Command.{run_app, show_app, verify_app}
use Rattle.command_words.proofs.ClapLemmas.{help_of_audit, help_of_backup, help_of_list, help_of_open, help_of_redo}
use Rattle.command_words.proofs.ClapLemmas.{help_of_renew, help_of_run, help_of_show, help_of_verify}
use Rattle.command_words.proofs.FolderRestoreLemmas.{help_restores_none}
use Rattle.command_words.proofs.NameLemmas.{help_gives_none, no_version, taken_by}
use Rattle.command_words.proofs.RedoLemmas.{help_is_other, taken_redo_into}
use Rattle.command_words.proofs.command.help_of.Goals as goal

pub returns-in-redo-clause-refused : goal.returns-in-redo-clause-refused
returns-in-redo-clause-refused c =
    let words = codes "redo" ∷ codes "--help" ∷ [] in
    help_gives_none words redo_into_app c.redo_into_of.result (no_version words (codes "redo") refl refl refl)
    c.redo_into_of.ensures.ok (taken_redo_into words refl help_is_other) help_of_redo

pub returns-in-redo-clause-explained : goal.returns-in-redo-clause-explained
returns-in-redo-clause-explained c =
    subst (λ name. IfErr c.redo_into_of.result (ExplainsRead (name ∷ codes "--help" ∷ []))) (sym c.in-redo.is)
    c.redo_into_of.ensures.explained

pub returns-in-run-clause-refused : goal.returns-in-run-clause-refused
returns-in-run-clause-refused c =
    let words = codes "run" ∷ codes "--help" ∷ [] in
    help_gives_none words run_app c.run_of.result (no_version words (codes "run") refl refl refl)
    c.run_of.ensures.ok (taken_by words run_app refl refl) help_of_run

pub returns-in-run-clause-explained : goal.returns-in-run-clause-explained
returns-in-run-clause-explained c =
    subst (λ name. IfErr c.run_of.result (ExplainsRead (name ∷ codes "--help" ∷ []))) (sym c.in-run.is)
    c.run_of.ensures.explained

pub returns-in-open-clause-refused : goal.returns-in-open-clause-refused
returns-in-open-clause-refused c =
    let words = codes "open" ∷ codes "--help" ∷ [] in
    help_gives_none words open_app c.open_of.result (no_version words (codes "open") refl refl refl)
    c.open_of.ensures.ok (taken_by words open_app refl refl) help_of_open

pub returns-in-open-clause-explained : goal.returns-in-open-clause-explained
returns-in-open-clause-explained c =
    subst (λ name. IfErr c.open_of.result (ExplainsRead (name ∷ codes "--help" ∷ []))) (sym c.in-open.is)
    c.open_of.ensures.explained

pub returns-in-backup-clause-refused : goal.returns-in-backup-clause-refused
returns-in-backup-clause-refused c =
    let words = codes "backup" ∷ codes "--help" ∷ [] in
    help_gives_none words backup_app c.backup_of.result (no_version words (codes "backup") refl refl refl)
    c.backup_of.ensures.ok (taken_by words backup_app refl refl) help_of_backup

pub returns-in-backup-clause-explained : goal.returns-in-backup-clause-explained
returns-in-backup-clause-explained c =
    subst (λ name. IfErr c.backup_of.result (ExplainsRead (name ∷ codes "--help" ∷ []))) (sym c.in-backup.is)
    c.backup_of.ensures.explained

pub returns-in-restore-clause-refused : goal.returns-in-restore-clause-refused
returns-in-restore-clause-refused c =
    help_restores_none c.restore_files_of.result c.restore_files_of.ensures.ok

pub returns-in-restore-clause-explained : goal.returns-in-restore-clause-explained
returns-in-restore-clause-explained c =
    subst (λ name. IfErr c.restore_files_of.result (ExplainsRead (name ∷ codes "--help" ∷ []))) (sym c.in-restore.is)
    c.restore_files_of.ensures.explained

pub returns-in-audit-clause-refused : goal.returns-in-audit-clause-refused
returns-in-audit-clause-refused c =
    let words = codes "audit" ∷ codes "--help" ∷ [] in
    help_gives_none words audit_app c.audit_of.result (no_version words (codes "audit") refl refl refl)
    c.audit_of.ensures.ok (taken_by words audit_app refl refl) help_of_audit

pub returns-in-audit-clause-explained : goal.returns-in-audit-clause-explained
returns-in-audit-clause-explained c =
    subst (λ name. IfErr c.audit_of.result (ExplainsRead (name ∷ codes "--help" ∷ []))) (sym c.in-audit.is)
    c.audit_of.ensures.explained

pub returns-in-verify-clause-refused : goal.returns-in-verify-clause-refused
returns-in-verify-clause-refused c =
    let words = codes "verify" ∷ codes "--help" ∷ [] in
    help_gives_none words verify_app c.verify_of.result (no_version words (codes "verify") refl refl refl)
    c.verify_of.ensures.ok (taken_by words verify_app refl refl) help_of_verify

pub returns-in-verify-clause-explained : goal.returns-in-verify-clause-explained
returns-in-verify-clause-explained c =
    subst (λ name. IfErr c.verify_of.result (ExplainsRead (name ∷ codes "--help" ∷ []))) (sym c.in-verify.is)
    c.verify_of.ensures.explained

pub returns-in-show-clause-refused : goal.returns-in-show-clause-refused
returns-in-show-clause-refused c =
    let words = codes "show" ∷ codes "--help" ∷ [] in
    help_gives_none words show_app c.show_of.result (no_version words (codes "show") refl refl refl)
    c.show_of.ensures.ok (taken_by words show_app refl refl) help_of_show

pub returns-in-show-clause-explained : goal.returns-in-show-clause-explained
returns-in-show-clause-explained c =
    subst (λ name. IfErr c.show_of.result (ExplainsRead (name ∷ codes "--help" ∷ []))) (sym c.in-show.is)
    c.show_of.ensures.explained

pub returns-in-list-clause-refused : goal.returns-in-list-clause-refused
returns-in-list-clause-refused c =
    let words = codes "list" ∷ codes "--help" ∷ [] in
    help_gives_none words list_app c.list_of.result (no_version words (codes "list") refl refl refl)
    c.list_of.ensures.ok (taken_by words list_app refl refl) help_of_list

pub returns-in-list-clause-explained : goal.returns-in-list-clause-explained
returns-in-list-clause-explained c =
    subst (λ name. IfErr c.list_of.result (ExplainsRead (name ∷ codes "--help" ∷ []))) (sym c.in-list.is)
    c.list_of.ensures.explained

pub returns-in-renew-clause-refused : goal.returns-in-renew-clause-refused
returns-in-renew-clause-refused c =
    let words = codes "renew" ∷ codes "--help" ∷ [] in
    help_gives_none words renew_app c.renew_of.result (no_version words (codes "renew") refl refl refl)
    c.renew_of.ensures.ok (taken_by words renew_app refl refl) help_of_renew

pub returns-in-renew-clause-explained : goal.returns-in-renew-clause-explained
returns-in-renew-clause-explained c =
    subst (λ name. IfErr c.renew_of.result (ExplainsRead (name ∷ codes "--help" ∷ []))) (sym c.in-renew.is)
    c.renew_of.ensures.explained
