use Rattle.engine_rules.specs.EngineState.{IsFit, log_of}
use Rattle.engine_run.proofs.laws.a_free_lock_guards_a_fit_engine.Goals as goal

pub returns-clause-restores : goal.returns-clause-restores
returns-clause-restores g c = λ kept id copy is_kept is.
    let s = c.args.held.now.engine.state in
    let fit : IsFit s = rw (← c.held.view_is) c.log_end-end.ensures.fit in
    c.a_complete_copy_restores.ensures.restores (log_of s) kept s.forced_end s.copies id copy
    fit.valid
    (c.copies_may_be_restored.ensures (log_of s) s.forced_end s.stored s.copies fit.copied) is_kept is
