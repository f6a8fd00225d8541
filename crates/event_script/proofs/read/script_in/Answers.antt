use Rattle.event_script.specs.Words.{lines_of}
use Rattle.event_script.specs.LineFault.{why_bad}
use Rattle.event_script.proofs.Scripts.{stopped, stops}
use Rattle.std.proofs.Common.{ap, ◌∙◌}
use Rattle.event_script.proofs.read.script_in.Goals as goal

pub returns-then-not-branch-clause-first : goal.returns-then-not-branch-clause-first
returns-then-not-branch-clause-first c =
    let read = c.loop-left.invariant.so_far in (
      c.requires,
      stops (lines_of c.args.input.now) read.0 c.loop-left.left c.in-Some.text c.next_line.result.0.now
          c.next_line.result.1 c.loop-left.number (c.loop-left.script.events.items, c.loop-left.script.restore)
          (c.take_line.new.script.events.items, c.take_line.new.script.restore) c.in_ok-take_line.field-0
          read.1 read.2 read.3 c.in-Some.is c.next_line.ensures.parts
          (c.in_ok-take_line.ensures read.0 read.3) c.if-not-branch.true,
      c.why_bad.ensures
          ∙ ap why_bad (stopped (lines_of c.args.input.now) read.0 c.loop-left.left c.in-Some.text
          c.next_line.result.0.now c.next_line.result.1 c.loop-left.number read.1 read.2 c.in-Some.is
          c.next_line.ensures.parts),
    )
