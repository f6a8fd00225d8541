use Rattle.std.proofs.Common.{Some, ap, codes, inr, map, refl, ◌∙◌}
use Rattle.command_words.specs.Command.{audit_app, backup_app, list_app, open_app, renew_app, run_app, show_app}
use Rattle.command_words.specs.Command.{verify_app}
use Rattle.command_words.proofs.NameLemmas.{apart, first_word, help_explains, not_of_redo, only_by, read_as_they_stand}
use Rattle.command_words.proofs.NameLemmas.{read_explains, taken_by, unknown, unknown_explains, unnamed}
use Rattle.command_words.proofs.command.command_of.Goals as goal

pub returns-in-run-clause-only : goal.returns-in-run-clause-only
returns-in-run-clause-only g c =
    let words = map g.S.AsStr.text c.args.words.now in
    let first = first_word g.S.AsStr.text c.args.words.now c.in-Some.name.now c.as_str.result.now
    c.in-Some.ensures.value c.as_str.ensures in
    only_by words run_app c.run_of.result (taken_by words run_app refl (first ∙ ap Some c.in-run.is))
    c.run_of.ensures.only

pub returns-in-open-clause-only : goal.returns-in-open-clause-only
returns-in-open-clause-only g c =
    let words = map g.S.AsStr.text c.args.words.now in
    let first = first_word g.S.AsStr.text c.args.words.now c.in-Some.name.now c.as_str.result.now
    c.in-Some.ensures.value c.as_str.ensures in
    only_by words open_app c.open_of.result (taken_by words open_app refl (first ∙ ap Some c.in-open.is))
    c.open_of.ensures.only

pub returns-in-backup-clause-only : goal.returns-in-backup-clause-only
returns-in-backup-clause-only g c =
    let words = map g.S.AsStr.text c.args.words.now in
    let first = first_word g.S.AsStr.text c.args.words.now c.in-Some.name.now c.as_str.result.now
    c.in-Some.ensures.value c.as_str.ensures in
    only_by words backup_app c.backup_of.result (taken_by words backup_app refl (first ∙ ap Some c.in-backup.is))
    c.backup_of.ensures.only

pub returns-in-audit-clause-only : goal.returns-in-audit-clause-only
returns-in-audit-clause-only g c =
    let words = map g.S.AsStr.text c.args.words.now in
    let first = first_word g.S.AsStr.text c.args.words.now c.in-Some.name.now c.as_str.result.now
    c.in-Some.ensures.value c.as_str.ensures in
    only_by words audit_app c.audit_of.result (taken_by words audit_app refl (first ∙ ap Some c.in-audit.is))
    c.audit_of.ensures.only

pub returns-in-verify-clause-only : goal.returns-in-verify-clause-only
returns-in-verify-clause-only g c =
    let words = map g.S.AsStr.text c.args.words.now in
    let first = first_word g.S.AsStr.text c.args.words.now c.in-Some.name.now c.as_str.result.now
    c.in-Some.ensures.value c.as_str.ensures in
    only_by words verify_app c.verify_of.result (taken_by words verify_app refl (first ∙ ap Some c.in-verify.is))
    c.verify_of.ensures.only

pub returns-in-show-clause-only : goal.returns-in-show-clause-only
returns-in-show-clause-only g c =
    let words = map g.S.AsStr.text c.args.words.now in
    let first = first_word g.S.AsStr.text c.args.words.now c.in-Some.name.now c.as_str.result.now
    c.in-Some.ensures.value c.as_str.ensures in
    only_by words show_app c.show_of.result (taken_by words show_app refl (first ∙ ap Some c.in-show.is))
    c.show_of.ensures.only

pub returns-in-list-clause-only : goal.returns-in-list-clause-only
returns-in-list-clause-only g c =
    let words = map g.S.AsStr.text c.args.words.now in
    let first = first_word g.S.AsStr.text c.args.words.now c.in-Some.name.now c.as_str.result.now
    c.in-Some.ensures.value c.as_str.ensures in
    only_by words list_app c.list_of.result (taken_by words list_app refl (first ∙ ap Some c.in-list.is))
    c.list_of.ensures.only

pub returns-in-renew-clause-only : goal.returns-in-renew-clause-only
returns-in-renew-clause-only g c =
    let words = map g.S.AsStr.text c.args.words.now in
    let first = first_word g.S.AsStr.text c.args.words.now c.in-Some.name.now c.as_str.result.now
    c.in-Some.ensures.value c.as_str.ensures in
    only_by words renew_app c.renew_of.result (taken_by words renew_app refl (first ∙ ap Some c.in-renew.is))
    c.renew_of.ensures.only

pub returns-in-run-clause-redo : goal.returns-in-run-clause-redo
returns-in-run-clause-redo g c =
    let first = first_word g.S.AsStr.text c.args.words.now c.in-Some.name.now c.as_str.result.now
    c.in-Some.ensures.value c.as_str.ensures in
    λ redo. absurd (not_of_redo _ c.as_str.result.now first c.in-run.not-redo redo)

pub returns-in-open-clause-redo : goal.returns-in-open-clause-redo
returns-in-open-clause-redo g c =
    let first = first_word g.S.AsStr.text c.args.words.now c.in-Some.name.now c.as_str.result.now
    c.in-Some.ensures.value c.as_str.ensures in
    λ redo. absurd (not_of_redo _ c.as_str.result.now first c.in-open.not-redo redo)

pub returns-in-backup-clause-redo : goal.returns-in-backup-clause-redo
returns-in-backup-clause-redo g c =
    let first = first_word g.S.AsStr.text c.args.words.now c.in-Some.name.now c.as_str.result.now
    c.in-Some.ensures.value c.as_str.ensures in
    λ redo. absurd (not_of_redo _ c.as_str.result.now first c.in-backup.not-redo redo)

pub returns-in-restore-clause-redo : goal.returns-in-restore-clause-redo
returns-in-restore-clause-redo g c =
    let first = first_word g.S.AsStr.text c.args.words.now c.in-Some.name.now c.as_str.result.now
    c.in-Some.ensures.value c.as_str.ensures in
    λ redo. absurd (not_of_redo _ c.as_str.result.now first c.in-restore.not-redo redo)

pub returns-in-audit-clause-redo : goal.returns-in-audit-clause-redo
returns-in-audit-clause-redo g c =
    let first = first_word g.S.AsStr.text c.args.words.now c.in-Some.name.now c.as_str.result.now
    c.in-Some.ensures.value c.as_str.ensures in
    λ redo. absurd (not_of_redo _ c.as_str.result.now first c.in-audit.not-redo redo)

pub returns-in-verify-clause-redo : goal.returns-in-verify-clause-redo
returns-in-verify-clause-redo g c =
    let first = first_word g.S.AsStr.text c.args.words.now c.in-Some.name.now c.as_str.result.now
    c.in-Some.ensures.value c.as_str.ensures in
    λ redo. absurd (not_of_redo _ c.as_str.result.now first c.in-verify.not-redo redo)

pub returns-in-show-clause-redo : goal.returns-in-show-clause-redo
returns-in-show-clause-redo g c =
    let first = first_word g.S.AsStr.text c.args.words.now c.in-Some.name.now c.as_str.result.now
    c.in-Some.ensures.value c.as_str.ensures in
    λ redo. absurd (not_of_redo _ c.as_str.result.now first c.in-show.not-redo redo)

pub returns-in-list-clause-redo : goal.returns-in-list-clause-redo
returns-in-list-clause-redo g c =
    let first = first_word g.S.AsStr.text c.args.words.now c.in-Some.name.now c.as_str.result.now
    c.in-Some.ensures.value c.as_str.ensures in
    λ redo. absurd (not_of_redo _ c.as_str.result.now first c.in-list.not-redo redo)

pub returns-in-renew-clause-redo : goal.returns-in-renew-clause-redo
returns-in-renew-clause-redo g c =
    let first = first_word g.S.AsStr.text c.args.words.now c.in-Some.name.now c.as_str.result.now
    c.in-Some.ensures.value c.as_str.ensures in
    λ redo. absurd (not_of_redo _ c.as_str.result.now first c.in-renew.not-redo redo)

pub returns-in_default-as_str-clause-redo : goal.returns-in_default-as_str-clause-redo
returns-in_default-as_str-clause-redo g c =
    let first = first_word g.S.AsStr.text c.args.words.now c.in-Some.name.now c.as_str.result.now
    c.in-Some.ensures.value c.as_str.ensures in
    λ redo. absurd (not_of_redo _ c.as_str.result.now first c.in_default-as_str.not-redo redo)

pub redo_of-requires : goal.redo_of-requires
redo_of-requires g c =
    let first = first_word g.S.AsStr.text c.args.words.now c.in-Some.name.now c.as_str.result.now
    c.in-Some.ensures.value c.as_str.ensures in
    first ∙ ap Some c.in-redo.is

pub run_of-requires : goal.run_of-requires
run_of-requires g c =
    let first = first_word g.S.AsStr.text c.args.words.now c.in-Some.name.now c.as_str.result.now
    c.in-Some.ensures.value c.as_str.ensures in
    first ∙ ap Some c.in-run.is

pub open_of-requires : goal.open_of-requires
open_of-requires g c =
    let first = first_word g.S.AsStr.text c.args.words.now c.in-Some.name.now c.as_str.result.now
    c.in-Some.ensures.value c.as_str.ensures in
    first ∙ ap Some c.in-open.is

pub backup_of-requires : goal.backup_of-requires
backup_of-requires g c =
    let first = first_word g.S.AsStr.text c.args.words.now c.in-Some.name.now c.as_str.result.now
    c.in-Some.ensures.value c.as_str.ensures in
    first ∙ ap Some c.in-backup.is

pub restore_of-requires : goal.restore_of-requires
restore_of-requires g c =
    let first = first_word g.S.AsStr.text c.args.words.now c.in-Some.name.now c.as_str.result.now
    c.in-Some.ensures.value c.as_str.ensures in
    first ∙ ap Some c.in-restore.is

pub audit_of-requires : goal.audit_of-requires
audit_of-requires g c =
    let first = first_word g.S.AsStr.text c.args.words.now c.in-Some.name.now c.as_str.result.now
    c.in-Some.ensures.value c.as_str.ensures in
    first ∙ ap Some c.in-audit.is

pub verify_of-requires : goal.verify_of-requires
verify_of-requires g c =
    let first = first_word g.S.AsStr.text c.args.words.now c.in-Some.name.now c.as_str.result.now
    c.in-Some.ensures.value c.as_str.ensures in
    first ∙ ap Some c.in-verify.is

pub show_of-requires : goal.show_of-requires
show_of-requires g c =
    let first = first_word g.S.AsStr.text c.args.words.now c.in-Some.name.now c.as_str.result.now
    c.in-Some.ensures.value c.as_str.ensures in
    first ∙ ap Some c.in-show.is

pub list_of-requires : goal.list_of-requires
list_of-requires g c =
    let first = first_word g.S.AsStr.text c.args.words.now c.in-Some.name.now c.as_str.result.now
    c.in-Some.ensures.value c.as_str.ensures in
    first ∙ ap Some c.in-list.is

pub renew_of-requires : goal.renew_of-requires
renew_of-requires g c =
    let first = first_word g.S.AsStr.text c.args.words.now c.in-Some.name.now c.as_str.result.now
    c.in-Some.ensures.value c.as_str.ensures in
    first ∙ ap Some c.in-renew.is

pub returns-in-redo-clause-explained : goal.returns-in-redo-clause-explained
returns-in-redo-clause-explained g c =
    let first = first_word g.S.AsStr.text c.args.words.now c.in-Some.name.now c.as_str.result.now
    c.in-Some.ensures.value c.as_str.ensures in
    read_explains (map g.S.AsStr.text c.args.words.now) _ c.redo_of.result (read_as_they_stand _ c.as_str.result.now first
    (apart _ (codes "redo") (codes "help") refl c.in-redo.is)) c.redo_of.ensures.explained

pub returns-in-run-clause-explained : goal.returns-in-run-clause-explained
returns-in-run-clause-explained g c =
    let first = first_word g.S.AsStr.text c.args.words.now c.in-Some.name.now c.as_str.result.now
    c.in-Some.ensures.value c.as_str.ensures in
    read_explains (map g.S.AsStr.text c.args.words.now) _ c.run_of.result (read_as_they_stand _ c.as_str.result.now first
    (apart _ (codes "run") (codes "help") refl c.in-run.is)) c.run_of.ensures.explained

pub returns-in-open-clause-explained : goal.returns-in-open-clause-explained
returns-in-open-clause-explained g c =
    let first = first_word g.S.AsStr.text c.args.words.now c.in-Some.name.now c.as_str.result.now
    c.in-Some.ensures.value c.as_str.ensures in
    read_explains (map g.S.AsStr.text c.args.words.now) _ c.open_of.result (read_as_they_stand _ c.as_str.result.now first
    (apart _ (codes "open") (codes "help") refl c.in-open.is)) c.open_of.ensures.explained

pub returns-in-backup-clause-explained : goal.returns-in-backup-clause-explained
returns-in-backup-clause-explained g c =
    let first = first_word g.S.AsStr.text c.args.words.now c.in-Some.name.now c.as_str.result.now
    c.in-Some.ensures.value c.as_str.ensures in
    read_explains (map g.S.AsStr.text c.args.words.now) _ c.backup_of.result (read_as_they_stand _ c.as_str.result.now first
    (apart _ (codes "backup") (codes "help") refl c.in-backup.is)) c.backup_of.ensures.explained

pub returns-in-restore-clause-explained : goal.returns-in-restore-clause-explained
returns-in-restore-clause-explained g c =
    let first = first_word g.S.AsStr.text c.args.words.now c.in-Some.name.now c.as_str.result.now
    c.in-Some.ensures.value c.as_str.ensures in
    read_explains (map g.S.AsStr.text c.args.words.now) _ c.restore_of.result (read_as_they_stand _ c.as_str.result.now first
    (apart _ (codes "restore") (codes "help") refl c.in-restore.is)) c.restore_of.ensures.explained

pub returns-in-audit-clause-explained : goal.returns-in-audit-clause-explained
returns-in-audit-clause-explained g c =
    let first = first_word g.S.AsStr.text c.args.words.now c.in-Some.name.now c.as_str.result.now
    c.in-Some.ensures.value c.as_str.ensures in
    read_explains (map g.S.AsStr.text c.args.words.now) _ c.audit_of.result (read_as_they_stand _ c.as_str.result.now first
    (apart _ (codes "audit") (codes "help") refl c.in-audit.is)) c.audit_of.ensures.explained

pub returns-in-verify-clause-explained : goal.returns-in-verify-clause-explained
returns-in-verify-clause-explained g c =
    let first = first_word g.S.AsStr.text c.args.words.now c.in-Some.name.now c.as_str.result.now
    c.in-Some.ensures.value c.as_str.ensures in
    read_explains (map g.S.AsStr.text c.args.words.now) _ c.verify_of.result (read_as_they_stand _ c.as_str.result.now first
    (apart _ (codes "verify") (codes "help") refl c.in-verify.is)) c.verify_of.ensures.explained

pub returns-in-show-clause-explained : goal.returns-in-show-clause-explained
returns-in-show-clause-explained g c =
    let first = first_word g.S.AsStr.text c.args.words.now c.in-Some.name.now c.as_str.result.now
    c.in-Some.ensures.value c.as_str.ensures in
    read_explains (map g.S.AsStr.text c.args.words.now) _ c.show_of.result (read_as_they_stand _ c.as_str.result.now first
    (apart _ (codes "show") (codes "help") refl c.in-show.is)) c.show_of.ensures.explained

pub returns-in-list-clause-explained : goal.returns-in-list-clause-explained
returns-in-list-clause-explained g c =
    let first = first_word g.S.AsStr.text c.args.words.now c.in-Some.name.now c.as_str.result.now
    c.in-Some.ensures.value c.as_str.ensures in
    read_explains (map g.S.AsStr.text c.args.words.now) _ c.list_of.result (read_as_they_stand _ c.as_str.result.now first
    (apart _ (codes "list") (codes "help") refl c.in-list.is)) c.list_of.ensures.explained

pub returns-in-renew-clause-explained : goal.returns-in-renew-clause-explained
returns-in-renew-clause-explained g c =
    let first = first_word g.S.AsStr.text c.args.words.now c.in-Some.name.now c.as_str.result.now
    c.in-Some.ensures.value c.as_str.ensures in
    read_explains (map g.S.AsStr.text c.args.words.now) _ c.renew_of.result (read_as_they_stand _ c.as_str.result.now first
    (apart _ (codes "renew") (codes "help") refl c.in-renew.is)) c.renew_of.ensures.explained

pub returns-in_default-as_str-clause-only : goal.returns-in_default-as_str-clause-only
returns-in_default-as_str-clause-only g c =
    let first = first_word g.S.AsStr.text c.args.words.now c.in-Some.name.now c.as_str.result.now
    c.in-Some.ensures.value c.as_str.ensures in
    let is_unknown = unknown c.as_str.result.now c.in_default-as_str.not-redo c.in_default-as_str.not-run
    c.in_default-as_str.not-open c.in_default-as_str.not-backup c.in_default-as_str.not-restore
    c.in_default-as_str.not-audit c.in_default-as_str.not-verify c.in_default-as_str.not-show
    c.in_default-as_str.not-list c.in_default-as_str.not-renew c.in_default-as_str.not-help
    c.in_default-as_str.not-text c.in_default-as_str.not-text-2 in
    λ taken. absurd (unnamed _ c.as_str.result.now first is_unknown taken)

pub returns-in_default-as_str-clause-explained : goal.returns-in_default-as_str-clause-explained
returns-in_default-as_str-clause-explained g c =
    let first = first_word g.S.AsStr.text c.args.words.now c.in-Some.name.now c.as_str.result.now
    c.in-Some.ensures.value c.as_str.ensures in
    let is_unknown = unknown c.as_str.result.now c.in_default-as_str.not-redo c.in_default-as_str.not-run
    c.in_default-as_str.not-open c.in_default-as_str.not-backup c.in_default-as_str.not-restore
    c.in_default-as_str.not-audit c.in_default-as_str.not-verify c.in_default-as_str.not-show
    c.in_default-as_str.not-list c.in_default-as_str.not-renew c.in_default-as_str.not-help
    c.in_default-as_str.not-text c.in_default-as_str.not-text-2 in
    unknown_explains (map g.S.AsStr.text c.args.words.now) _ c.fault_of_unknown.result first c.in_default-as_str.not-help
    (c.fault_of_unknown.ensures is_unknown)

pub returns-in-text-clause-explained : goal.returns-in-text-clause-explained
returns-in-text-clause-explained g c =
    let first = first_word g.S.AsStr.text c.args.words.now c.in-Some.name.now c.as_str.result.now
    c.in-Some.ensures.value c.as_str.ensures in
    help_explains (map g.S.AsStr.text c.args.words.now) _ first c.in-text.not-help (inr c.in-text.is)
