use Rattle.std.proofs.Common.{◌≡◌, ◌∙◌, ◌+◌, ◌<◌, List, [], length, map, get_or, sym, ap, subst, arith, below_more}
use Rattle.std.proofs.lemmas.List.{get_or_default, get_or-map, length-map}
use Rattle.page_core.specs.Page.{formatted}
use Rattle.log_records.specs.Coverage.{Covers}
use Rattle.copy_vault.specs.ChainEach.{place_list}
use Rattle.log_records.specs.declared.record.Record.{Record}
use Rattle.copy_audit.specs.Changes.{AreChangesOf}
use Rattle.copy_audit.specs.Rows.{IsSoundIn, content_in}
use Rattle.copy_audit.specs.Trace.{IsReach, IsTraced}
use Rattle.copy_audit.proofs.Founds.{no_page, reach_kept, reach_taken}
use Rattle.copy_audit.proofs.Traces.{formatted_seen}
use Rattle.copy_audit.proofs.members.first_unsound.Goals as goal
use Rattle.copy_audit.proofs.members.first_unsound.Goals.{in-Some+else-has_passed, in_default}

pub loop-member-init : goal.loop-member-init
loop-member-init c =
    let number = c.args.number in
    record {
      traced = λ rs of. c.new-trace.ensures.traced rs;
      reach = λ rs of. c.reach-reach.ensures rs number c.args.count (formatted number)
          (formatted_seen rs number c.new-trace.result (c.new-trace.ensures.traced rs) c.new-trace.ensures.reached) of;
      sound = λ rs of k lt. absurd (omega arith);
    }

pub returns-then-not-covers-clause-first : goal.returns-then-not-covers-clause-first
returns-then-not-covers-clause-first c = λ rs of.
    let number = c.args.number in
    let row = map place_list c.args.row.now in
    let m = c.loop-member.member in
    let point = c.index-points-member.is
    ∙ get_or_default c.args.points.now m c.index-points-member.result 0 (omega (arith, c.requires.points)) in
    let lt : m < length row = omega (arith, length-map c.args.row.now place_list, c.requires.row) in
    let d = c.index-row-member.result in
    let at : get_or row m [] ≡ place_list d =
    get_or-map place_list c.args.row.now m d [] (omega (arith, c.requires.row)) ∙ ap place_list (sym c.index-row-member.is) in
    let reach : IsReach rs number (content_in number row (m + 1)) c.match-row-member.reach =
    elim c.match-row-member.branch [
      | in-Some+else-has_passed w ↦ reach_taken rs number row m w.in-Some.page c.match-row-member.reach w.look-reach.result
          lt (at ∙ ap place_list w.in-Some.is) w.reach-is
          (w.look-reach.ensures.reach rs of (c.loop-member.invariant.traced rs of))
      | in_default w ↦ reach_kept rs number row m c.match-row-member.reach c.loop-member.reach lt
          (at ∙ no_page d w.in_default.not-Some) w.reach-is (c.loop-member.invariant.reach rs of)
    ] in
    record {
      there = c.loop-member-test.true;
      before = c.loop-member.invariant.sound rs of;
      here = λ sound.
          let yes = (c.covers.ensures rs number (content_in number row (m + 1)) reach).1
          (subst (λ n. Covers rs number (content_in number row (m + 1)) n) (sym point) sound) in
          let no = c.if-not-covers.true in
          cc;
    }

pub loop-member-preserved : goal.loop-member-preserved
loop-member-preserved c =
    let number = c.args.number in
    let row = map place_list c.args.row.now in
    let m = c.loop-member.member in
    let point = c.index-points-member.is
    ∙ get_or_default c.args.points.now m c.index-points-member.result 0 (omega (arith, c.requires.points)) in
    let lt : m < length row = omega (arith, length-map c.args.row.now place_list, c.requires.row) in
    let d = c.index-row-member.result in
    let at : get_or row m [] ≡ place_list d =
    get_or-map place_list c.args.row.now m d [] (omega (arith, c.requires.row)) ∙ ap place_list (sym c.index-row-member.is) in
    let reach : (rs : List Record) → AreChangesOf rs number c.args.count c.args.changes.now
    → IsReach rs number (content_in number row (m + 1)) c.match-row-member.reach =
    elim c.match-row-member.branch [
      | in-Some+else-has_passed w ↦ λ rs of. reach_taken rs number row m w.in-Some.page c.match-row-member.reach
          w.look-reach.result lt (at ∙ ap place_list w.in-Some.is) w.reach-is
          (w.look-reach.ensures.reach rs of (c.loop-member.invariant.traced rs of))
      | in_default w ↦ λ rs of. reach_kept rs number row m c.match-row-member.reach c.loop-member.reach lt
          (at ∙ no_page d w.in_default.not-Some) w.reach-is (c.loop-member.invariant.reach rs of)
    ] in
    record {
      traced = λ rs of. elim c.match-row-member.branch [
        | in-Some+else-has_passed w ↦ subst (IsTraced rs number) (sym w.trace-is)
            (w.look-reach.ensures.traced rs of (c.loop-member.invariant.traced rs of))
        | in_default w ↦ subst (IsTraced rs number) (sym w.trace-is) (c.loop-member.invariant.traced rs of)
      ];
      reach = reach;
      sound = λ rs of. below_more (IsSoundIn rs number row c.args.points.now) m (c.loop-member.invariant.sound rs of)
          (subst (λ n. Covers rs number (content_in number row (m + 1)) n) point
          ((c.covers.ensures rs number (content_in number row (m + 1)) (reach rs of)).0 c.if-not-covers.false));
    }

pub returns-clause-first : goal.returns-clause-first
returns-clause-first c = λ rs of k lt.
    c.loop-member.invariant.sound rs of k (omega (arith, lt, c.loop-member-test.false))
