use Rattle.std.proofs.Common.{length, map, refl, sym, subst, arith}
use Rattle.std.specs.Prelude.{Option}
use Rattle.copy_vault.specs.ChainEach.{place_list}
use Rattle.copy_audit.specs.declared.found.Found.{Found}
use Rattle.copy_audit.specs.Rows.{IsFirstOf}
use Rattle.copy_audit.proofs.Founds.{IsMost, row_clean, row_found}
use Rattle.copy_audit.proofs.chain_audit.found_with.Goals as goal
use Rattle.copy_audit.proofs.chain_audit.found_with.Goals.{in-Some, in-None}

pub returns-in-Some-first : goal.returns-in-Some-first
returns-in-Some-first c = λ rs of given count old.
    let members = length c.args.row.now in
    let most : IsMost members c.args.found c.match-found.most = elim c.match-found.branch [
      | in-Some w ↦ subst (λ (f : Option Found). IsMost members f c.match-found.most) (sym w.in-Some.is)
          (λ there. omega (arith, w.most-is, w.min-most.ensures, there))
      | in-None w ↦ subst (λ (f : Option Found). IsMost members f c.match-found.most) (sym w.in-None.is) w.most-is
    ] in
    row_found rs c.args.points.now members c.args.page c.match-found.most given
    (map place_list c.args.row.now) c.args.found (record { member = c.in-Some-first.member; page = c.args.page })
    count most old
    (subst (λ f. IsFirstOf rs c.args.page (map place_list c.args.row.now) c.args.points.now
    c.match-found.most f) c.in-Some-first.is (c.in_ok-first.ensures.first rs of)) refl

pub returns-in-None-first : goal.returns-in-None-first
returns-in-None-first c = λ rs of given count old.
    let members = length c.args.row.now in
    let most : IsMost members c.args.found c.match-found.most = elim c.match-found.branch [
      | in-Some w ↦ subst (λ (f : Option Found). IsMost members f c.match-found.most) (sym w.in-Some.is)
          (λ there. omega (arith, w.most-is, w.min-most.ensures, there))
      | in-None w ↦ subst (λ (f : Option Found). IsMost members f c.match-found.most) (sym w.in-None.is) w.most-is
    ] in
    row_clean rs c.args.points.now members c.args.page c.match-found.most given
    (map place_list c.args.row.now) c.args.found count most old
    (subst (IsFirstOf rs c.args.page (map place_list c.args.row.now) c.args.points.now
    c.match-found.most) c.in-None-first.is (c.in_ok-first.ensures.first rs of))
