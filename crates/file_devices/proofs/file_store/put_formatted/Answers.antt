use Rattle.std.proofs.Common.{◌≡◌, ◌-◌, ◌++◌, [], ◌∷◌, map, ap, ◌∙◌, arith}
use Rattle.std.specs.List.{range_with_len}
use Rattle.std.proofs.lemmas.Result.{err_from_is_err_and}
use Rattle.page_core.specs.Page.{formatted}
use Rattle.file_devices.specs.Calls.{done, failed}
use Rattle.file_devices.specs.FileStore.{page_write, writes_of}
use Rattle.file_devices.proofs.Formatted.{writes_fail, writes_more}
use Rattle.file_devices.proofs.file_store.put_formatted.Goals as goal

pub returns-in_err-put-clause-err : goal.returns-in_err-put-clause-err
returns-in_err-put-clause-err c =
    let p = err_from_is_err_and c.from_residual.result c.from_residual.ensures.1 in
    rw p.1
    (writes_fail c.args.file.now c.put.new.file c.args.from c.loop-number.number c.args.to
    c.loop-number.auto.number c.loop-number-test.true
    (c.in_err-put.ensures
    ∙ ap (λ calls. calls ++ failed (page_write c.formatted.result) ∷ []) c.loop-number.invariant.calls
    ∙ ap (λ page. c.args.file.now ++ writes_of (map formatted (range_with_len c.args.from (c.loop-number.number - c.args.from)))
    ++ failed (page_write page) ∷ []) c.formatted.ensures))

pub loop-number-preserved : goal.loop-number-preserved
loop-number-preserved c = record {
  calls = c.in_ok-put.ensures
      ∙ ap (λ calls. calls ++ done (page_write c.formatted.result) ∷ []) c.loop-number.invariant.calls
      ∙ ap (λ page. c.args.file.now ++ writes_of (map formatted (range_with_len c.args.from (c.loop-number.number - c.args.from)))
      ++ done (page_write page) ∷ []) c.formatted.ensures
      ∙ writes_more c.args.file.now c.args.from c.loop-number.number c.loop-number.auto.number;
  within = omega (arith, c.loop-number.auto.number, c.loop-number-test.true);
}

pub returns-clause-ok : goal.returns-clause-ok
returns-clause-ok c =
    let same : c.loop-number.number - c.args.from ≡ c.args.to - c.args.from =
    omega (arith, c.loop-number.invariant.within, c.loop-number.auto.number, c.loop-number-test.false) in
    c.loop-number.invariant.calls
    ∙ ap (λ k. c.args.file.now ++ writes_of (map formatted (range_with_len c.args.from k))) same
