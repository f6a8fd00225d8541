use Rattle.std.proofs.Common.{◌∙◌, ◌+◌, [], ◌∷◌, ℕ, map, sym, ap, subst}
use Rattle.std.specs.Prelude.{None}
use Rattle.std.proofs.lemmas.List.{get_or_default, map-append}
use Rattle.copy_audit.specs.declared.by_lsn.Due.{Due}
use Rattle.copy_audit.specs.ByLsn.{HavePages}
use Rattle.copy_audit.proofs.ByLsn.{no_more_pages, no_place, one_more_page}
use Rattle.copy_audit.proofs.by_lsn.pages_of.Goals as goal
use Rattle.copy_audit.proofs.by_lsn.pages_of.Goals.{in-Some+in_ok-push, in_default}

pub loop-member-preserved : goal.loop-member-preserved
loop-member-preserved c =
    let row = c.args.row.now in
    let m = c.loop-member.member in
    let f : Due → ℕ = λ it. it.member in
    let so_far = c.loop-member.invariant in
    let place = c.index-row-member.result in
    let here = get_or_default row m None place c.loop-member-test.true ∙ sym c.index-row-member.is in
    elim c.match-row-member.branch [
      | in-Some+in_ok-push w ↦
          let made = ap (map f) (ap (λ d. d.items) w.due-is ∙ w.in_ok-push.ensures.items)
          ∙ map-append f c.loop-member.due.items ((record { lsn = w.in-Some.page.lsn; member = m }) ∷ []) in
          subst (HavePages row (m + 1)) (sym made)
          (one_more_page row m (map f c.loop-member.due.items) so_far)
      | in_default w ↦
          subst (λ d. HavePages row (m + 1) (map f d.items)) (sym w.due-is)
          (no_more_pages row m (map f c.loop-member.due.items) so_far (here ∙ no_place place w.in_default.not-Some))
    ]
