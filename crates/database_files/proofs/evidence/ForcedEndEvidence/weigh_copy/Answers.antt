use Rattle.std.proofs.Common.{◌≡◌, ◌∙◌, ◌<◌, ◌≤◌, ℕ, ap, arith, length, rules, subst}
use Rattle.database_files.specs.Evidence.{Weighs, IsOfCopy, IsWithin, NotesMissed}
use Rattle.database_files.specs.declared.evidence.ForcedEndEvidence.{ForcedEndEvidence}
use Rattle.database_files.specs.declared.evidence.Witness.TheVariants as witness
use Rattle.database_files.proofs.Weighed.{weighs_page}
use Rattle.database_files.proofs.Weighed.{holds_if_ok}
use Rattle.database_files.proofs.evidence.ForcedEndEvidence.weigh_copy.Goals as goal

pub returns-in-loop-number-clause-weighed : goal.returns-in-loop-number-clause-weighed
returns-in-loop-number-clause-weighed c =
    let id = c.args.id in
    let old = c.args.self.now in
    let copy = c.args.copy.now in
    let mid = c.note.new.self in
    let here = c.loop-number.self in
    let now = c.note-in-loop-number.new.self.claims.items in
    let page = c.in-Some.page.now in
    let p = c.loop-number.number in
    let low : p < length copy.pages = omega (arith, c.loop-number-test.true, c.pages-number-end.ensures.count) in
    let ends : mid.end ≡ old.end = c.note.ensures.end in
    let past : here.end ≤ page.lsn = search rules in
    holds_if_ok c.note-in-loop-number.result
    (NotesMissed here.end (record { witness = witness.Page id p; at = page.lsn }) here.claims.items now)
    (Weighs (IsOfCopy id) old.claims.items now (IsWithin old.end copy))
    (λ noted. weighs_page old.end id p copy page old.claims.items mid.claims.items now
    (subst (λ (at : ℕ). NotesMissed old.end (record { witness = witness.Begin id; at = at }) old.claims.items mid.claims.items)
    c.begin.ensures c.in_ok-note.ensures.noted)
    (subst (λ (e : ℕ). NotesMissed e (record { witness = witness.Page id p; at = page.lsn }) mid.claims.items now) ends
    (subst (λ (l : ForcedEndEvidence). NotesMissed l.end (record { witness = witness.Page id p; at = page.lsn }) l.claims.items now)
    c.loop-number.invariant.0 noted))
    low c.in-Some.ensures.found
    (subst (λ (e : ℕ). e ≤ page.lsn) (ap (λ (l : ForcedEndEvidence). l.end) c.loop-number.invariant.0 ∙ ends) past))
    c.note-in-loop-number.ensures.noted
