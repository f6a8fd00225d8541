use Rattle.std.proofs.Common.{ℕ, List, length, map, refl, subst}
use Rattle.std.specs.Prelude.{None, Some}
use Rattle.copy_vault.specs.ChainEach.{ids_of, place_list, points_of}
use Rattle.copy_audit.specs.Rows.{IsFirstOf}
use Rattle.copy_audit.proofs.Founds.{none_first}
use Rattle.copy_audit.proofs.Tells.{told_sound, told_unsound}
use Rattle.copy_audit.proofs.all_pages.note_row.Goals as goal

pub returns-in_ok-note : goal.returns-in_ok-note
returns-in_ok-note c = λ rs of given count old.
    told_unsound rs (points_of c.args.chain.now) (ids_of c.args.chain.now) (length c.args.row.now)
    c.args.page c.in-Some.member given (map place_list c.args.row.now)
    (record { copy = c.id_at-copy.result; page = c.args.page }) c.args.found.now c.note.new.self count refl
    c.id_at-copy.ensures
    (subst (λ (ps : List ℕ). IsFirstOf rs c.args.page (map place_list c.args.row.now) ps
    (length c.args.row.now) (Some c.in-Some.member)) c.requires.points
    (subst (IsFirstOf rs c.args.page (map place_list c.args.row.now) c.args.points.now
    (length c.args.row.now)) c.in-Some.is (c.in_ok-first.ensures.first rs of))) c.in_ok-note.ensures old

pub returns-in_default : goal.returns-in_default
returns-in_default c = λ rs of given count old.
    told_sound rs (points_of c.args.chain.now) (ids_of c.args.chain.now) (length c.args.row.now)
    c.args.page given (map place_list c.args.row.now) c.args.found.now count
    (subst (λ (ps : List ℕ). IsFirstOf rs c.args.page (map place_list c.args.row.now) ps
    (length c.args.row.now) None) c.requires.points
    (subst (IsFirstOf rs c.args.page (map place_list c.args.row.now) c.args.points.now
    (length c.args.row.now)) (none_first c.in_ok-first.first c.in_default.not-Some) (c.in_ok-first.ensures.first rs of))) old
