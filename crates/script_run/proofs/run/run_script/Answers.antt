use Rattle.std.proofs.Common.{ℕ, ◌∙◌, List, subst}
use Rattle.script_run.specs.Run.{LeavesPart}
use Rattle.engine_calls.specs.declared.event.Event.{Event}
use Rattle.engine_rules.specs.EngineState.{new_state}
use Rattle.engine_rules.specs.Run.{Run}
use Rattle.script_run.proofs.Runs.{not_written, script_of, was_read}
use Rattle.script_run.proofs.run.run_script.Goals as goal

pub returns-in-Err-write_lines-clause-err : goal.returns-in-Err-write_lines-clause-err
returns-in-Err-write_lines-clause-err g c =
    let script = c.in-Ok.script in
    let read = c.in-Ok.ensures in
    let played = c.in-Ok-play_in_memory.ensures in
    let replies = played.0 in
    let input = g.R.Read.remaining c.args.reader.now in
    not_written c.args.setup.pages c.args.setup.frames input (g.W.Write.contents c.args.writer.now)
    (g.W.Write.contents c.write_lines.new.writer) replies
    c.in-Ok-play_in_memory.retired script.restore c.in-Err-write_lines.fault
    (record {
      events = script.events.items;
      state = played.1.2.0;
      faultless = played.1.1;
      script = script_of input script.events.items script.restore read.found read.text;
      run = subst (λ (events : List Event). Run (new_state c.args.setup.pages c.args.setup.frames) events
          replies played.1.2.0) c.deref.ensures.value played.1.2.1;
      left_by = played.1.2.2;
    })
    (subst (λ (bytes : List ℕ). LeavesPart bytes
    (g.W.Write.contents c.args.writer.now) (g.W.Write.contents c.write_lines.new.writer)
    c.in-Err-write_lines.fault) (c.deref-2.ensures ∙ played.1.0) c.in-Err-write_lines.ensures.err)

pub returns-in-Err-write_lines-clause-unread : goal.returns-in-Err-write_lines-clause-unread
returns-in-Err-write_lines-clause-unread g c =
    was_read _ _ _ _ _ c.in-Err-write_lines.fault c.in-Err-write_lines.ensures.err
