use Rattle.std.proofs.Common.{◌≡◌, ◌∙◌, ◌+◌, ◌<◌, List, length, map, get_or, sym, ap, subst, arith, below_more, inl, inr}
use Rattle.std.specs.Prelude.{None, Some}
use Rattle.std.proofs.lemmas.List.{get_or_default}
use Rattle.page_core.specs.Page.{formatted}
use Rattle.log_records.specs.Coverage.{Covers}
use Rattle.copy_vault.specs.ChainEach.{place_list}
use Rattle.log_records.specs.declared.record.Record.{Record}
use Rattle.copy_audit.specs.Changes.{AreChangesOf}
use Rattle.copy_audit.specs.Rows.{IsSoundIn, content_in}
use Rattle.copy_audit.specs.Trace.{IsReach}
use Rattle.copy_audit.proofs.ByLsn.{no_reach}
use Rattle.copy_audit.proofs.Founds.{reach_next}
use Rattle.copy_audit.proofs.Traces.{formatted_seen}
use Rattle.copy_audit.proofs.by_lsn.first_by_lsn.Goals as goal
use Rattle.copy_audit.proofs.by_lsn.first_by_lsn.Goals.{in-Some, in_default}

pub loop-member-init : goal.loop-member-init
loop-member-init c =
    let number = c.args.number in
    record {
      reach = λ rs of. c.reach-reach.ensures rs number c.args.count (formatted number)
          (formatted_seen rs number c.new.result (c.new.ensures.traced rs) c.new.ensures.reached) of;
      sound = λ rs of k lt. absurd (omega arith);
    }

pub returns-then-not-covers-clause-first : goal.returns-then-not-covers-clause-first
returns-then-not-covers-clause-first c = λ rs of.
    let number = c.args.number in
    let row = map place_list c.args.row.now in
    let m = c.loop-member.member in
    let point = c.index-points-member.is
    ∙ get_or_default c.args.points.now m c.index-points-member.result 0 (omega (arith, c.requires.points)) in
    let below : m < length c.args.row.now = omega (arith, c.requires.row) in
    let seen = c.in_ok-seen.ensures.each rs of in
    let it = get_or c.in_ok-seen.seen.items m None in
    let read : c.index.result.now ≡ it =
    c.index.ensures ∙ get_or_default c.in_ok-seen.seen.items m c.index.result.now None (omega (arith, seen.count)) in
    let reach : IsReach rs number (content_in number row (m + 1)) c.match-index.reach =
    elim c.match-index.branch [
      | in-Some w ↦ reach_next rs number c.args.row.now m it c.match-index.reach c.loop-member.reach below
          (seen.each m below) (c.loop-member.invariant.reach rs of) (inl (sym read ∙ w.in-Some.is ∙ ap Some (sym w.reach-is)))
      | in_default w ↦ reach_next rs number c.args.row.now m it c.match-index.reach c.loop-member.reach below
          (seen.each m below) (c.loop-member.invariant.reach rs of) (inr (sym read ∙ no_reach c.index.result.now w.in_default.not-Some, w.reach-is))
    ] in
    record {
      there = c.loop-member-test.true;
      before = c.loop-member.invariant.sound rs of;
      here = λ sound.
          let yes = (c.covers.ensures rs number (content_in number row (m + 1)) reach).1
          (subst (λ n. Covers rs number (content_in number row (m + 1)) n) (sym point) sound) in
          let no = c.if-not-covers.true in
          cc;
    }

pub loop-member-preserved : goal.loop-member-preserved
loop-member-preserved c =
    let number = c.args.number in
    let row = map place_list c.args.row.now in
    let m = c.loop-member.member in
    let point = c.index-points-member.is
    ∙ get_or_default c.args.points.now m c.index-points-member.result 0 (omega (arith, c.requires.points)) in
    let below : m < length c.args.row.now = omega (arith, c.requires.row) in
    let it = get_or c.in_ok-seen.seen.items m None in
    let reach : (rs : List Record) → AreChangesOf rs number c.args.count c.args.changes.now
    → IsReach rs number (content_in number row (m + 1)) c.match-index.reach = λ rs of.
    let seen = c.in_ok-seen.ensures.each rs of in
    let read : c.index.result.now ≡ it =
    c.index.ensures ∙ get_or_default c.in_ok-seen.seen.items m c.index.result.now None (omega (arith, seen.count)) in
    elim c.match-index.branch [
      | in-Some w ↦ reach_next rs number c.args.row.now m it c.match-index.reach c.loop-member.reach below
          (seen.each m below) (c.loop-member.invariant.reach rs of) (inl (sym read ∙ w.in-Some.is ∙ ap Some (sym w.reach-is)))
      | in_default w ↦ reach_next rs number c.args.row.now m it c.match-index.reach c.loop-member.reach below
          (seen.each m below) (c.loop-member.invariant.reach rs of) (inr (sym read ∙ no_reach c.index.result.now w.in_default.not-Some, w.reach-is))
    ] in
    record {
      reach = reach;
      sound = λ rs of. below_more (IsSoundIn rs number row c.args.points.now) m (c.loop-member.invariant.sound rs of)
          (subst (λ n. Covers rs number (content_in number row (m + 1)) n) point
          ((c.covers.ensures rs number (content_in number row (m + 1)) (reach rs of)).0 c.if-not-covers.false));
    }

pub returns-clause-first : goal.returns-clause-first
returns-clause-first c = λ rs of k lt.
    c.loop-member.invariant.sound rs of k (omega (arith, lt, c.loop-member-test.false))
