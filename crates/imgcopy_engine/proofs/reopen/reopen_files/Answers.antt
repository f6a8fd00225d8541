use Rattle.std.proofs.Common.{subst, sym, ◌∙◌}
use Rattle.std.specs.Prelude.{Option}
use Rattle.log_prefix.specs.Front.{IsFrontOf}
use Rattle.log_prefix.specs.declared.cut.Cut.{Cut}
use Rattle.log_records.specs.Log.{IsLog, Log, log_bytes}
use Rattle.engine_rules.specs.EngineState.{EngineState, log_of}
use Rattle.engine_restart.specs.LogFile.{LastsOnFile}
use Rattle.engine_restart.specs.Lives.{GoesOnFrom}
use Rattle.imgcopy_engine.specs.Reopened.{not_undone}
use Rattle.imgcopy_engine.specs.Taken.{TakesUp}
use Rattle.imgcopy_engine.proofs.LogFound.{calls_go_on, still_read}
use Rattle.imgcopy_engine.proofs.PagesFound.{are_counted, are_numbered}
use Rattle.imgcopy_engine.proofs.reopen.reopen_files.Goals as goal

pub store_of-requires-clause-some : goal.store_of-requires-clause-some
store_of-requires-clause-some c =
    (are_counted c.in_ok-front.field-0.front.log c.take_up.new.restarted.log c.pages.result.now
    (subst IsLog c.log.ensures.log c.pages-count.ensures.valid)
    (c.take_up.ensures.log ∙ c.in-Ok.ensures.log) (c.pages.ensures.pages ∙ c.pages.ensures.kept.pages)).least

pub store_of-requires-clause-few : goal.store_of-requires-clause-few
store_of-requires-clause-few c =
    (are_counted c.in_ok-front.field-0.front.log c.take_up.new.restarted.log c.pages.result.now
    (subst IsLog c.log.ensures.log c.pages-count.ensures.valid)
    (c.take_up.ensures.log ∙ c.in-Ok.ensures.log) (c.pages.ensures.pages ∙ c.pages.ensures.kept.pages)).most

pub store_of-requires-clause-numbered : goal.store_of-requires-clause-numbered
store_of-requires-clause-numbered c = are_numbered c.take_up.new.restarted.log c.pages.result.now
    (c.pages.ensures.pages ∙ c.pages.ensures.kept.pages)

pub into_engine-requires-clause-device : goal.into_engine-requires-clause-device
into_engine-requires-clause-device c =
    subst (λ (log : Log). LastsOnFile log c.in-Ok.it.1) (sym c.take_up.ensures.log) c.in-Ok.ensures.device

pub returns-in-Err-clause-fault : goal.returns-in-Err-clause-fault
returns-in-Err-clause-fault c =
    let found = c.in_ok-front.field-0 in
    not_undone found.bytes.items found.front found.device c.in_ok-front.ensures.read c.in_ok-front.ensures.front
    c.in-Err.ensures.fault c.in-Err.ensures.stands c.in-Err.ensures.last_call c.in-Err.ensures.full

pub returns-in-Ok-into_engine : goal.returns-in-Ok-into_engine
returns-in-Ok-into_engine c =
    let found = c.in_ok-front.field-0 in
    let bytes = found.bytes.items in
    let undone = c.in-Ok.it in
    let go_on = calls_go_on found.front.log undone.0.log found.device undone.1 c.in-Ok.ensures.called in
    let it = c.in-Ok-into_engine in
    record {
      goes_on = record {
        bytes = bytes;
        log = found.front.log;
        read = rw it.ensures.device
            (still_read c.args.log.1 bytes (log_bytes found.front.log) found.device.calls undone.1.calls
            c.in_ok-front.ensures.read go_on);
        front = subst (λ (cut : Option Cut). IsFrontOf bytes (record { log = found.front.log; cut = cut }))
            (sym c.cut-cut.ensures) c.in_ok-front.ensures.front;
        goes_on = subst (λ (l : Log). GoesOnFrom l it.engine.state)
            (c.take_up.ensures.log ∙ c.in-Ok.ensures.log) it.ensures.goes_on;
      };
      copies = subst
          (λ (s : EngineState). TakesUp (log_of s) c.args.copies.items c.in_ok-refused.refused.items s.copies)
          (sym it.ensures.state)
          (subst
          (λ (l : Log). TakesUp l c.args.copies.items c.in_ok-refused.refused.items c.take_up.new.restarted.copies)
          (sym c.take_up.ensures.log) c.in_ok-refused.ensures.taken);
      fault = tt;
    }
