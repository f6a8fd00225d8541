use Rattle.std.proofs.Common.{ap, length, sym, ◌∙◌}
use Rattle.log_prefix.specs.Front.{end_of}
use Rattle.log_records.specs.Log.{Log}
use Rattle.engine_rules.specs.EngineState.{EngineState}
use Rattle.database_opening.proofs.Resumed.{goes_on_with, is_counted, told_is}
use Rattle.database_opening.proofs.restarted.go_on.Goals as goal

pub add_copies_and_volume-requires-clause-counted : goal.add_copies_and_volume-requires-clause-counted
add_copies_and_volume-requires-clause-counted g c =
    is_counted c.args.found.front.log c.in_ok-restarted.restarted.log c.of-facts.ensures.log
    c.in_ok-restarted.ensures.log

pub returns-clause-goes_on : goal.returns-clause-goes_on
returns-clause-goes_on g c =
    goes_on_with c.args.found.front.log c.end-end.result c.args.beside.0.copies.items c.in_ok-restarted.restarted
    c.add_copies_and_volume.new.restarted c.in_ok-engine.engine.state (c.end-end.ensures ∙ ap end_of c.log.ensures.log) c.in_ok-restarted.ensures.log c.in_ok-restarted.ensures.copies c.add_copies_and_volume.ensures.log
    c.in_ok-store.ensures.taken c.in_ok-engine.ensures.goes_on
    (ap (λ (s : EngineState). s.copies) c.in_ok-engine.ensures.state)

pub returns-clause-told : goal.returns-clause-told
returns-clause-told g c =
    told_is c.args.found.front.log c.of-facts.result.end c.of-facts.result.taken_back
    (length c.in_ok-restarted.restarted.log.records) c.in_ok-engine.engine.state c.first_line-first.result
    c.first_line-first.ensures c.of-facts.ensures.cut c.of-facts.ensures.open
    (sym (ap (λ (s : EngineState). length s.log) c.in_ok-engine.ensures.state
    ∙ ap (λ (l : Log). length l.records) c.add_copies_and_volume.ensures.log))

pub returns-clause-frames : goal.returns-clause-frames
returns-clause-frames g c = ap (λ (s : EngineState). s.frames) c.in_ok-engine.ensures.state
