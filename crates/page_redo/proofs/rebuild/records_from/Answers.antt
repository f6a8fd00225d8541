use Rattle.std.proofs.Common.{◌∙◌, ◌-◌, length, drop, ap, arith}
use Rattle.std.proofs.lemmas.List.{length-drop, take_all}
use Rattle.log_records.specs.Log.{Log}
use Rattle.page_redo.specs.Redo.{redone}
use Rattle.page_redo.proofs.Volumes.{behind_is_resumed}
use Rattle.page_redo.proofs.rebuild.records_from.Goals as goal

pub returns : goal.returns
returns c = λ page.
    let rs = c.args.log.now in
    let log : Log = record { pages = c.requires.0; records = rs } in
    let k = c.min.result in
    let least = c.min.ensures in
    let back = c.records_below-first.ensures in
    ap (redone page) (take_all (length rs - k) (drop k rs) (omega (arith, length-drop k rs)))
    ∙ behind_is_resumed log c.args.from k page c.requires.1 (omega arith) (omega arith) (λ there. omega arith)
