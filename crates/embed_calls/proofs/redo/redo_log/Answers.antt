use Rattle.std.proofs.Common.{◌≢◌, arith, ◌∙◌, ap}
use Rattle.embed_calls.specs.declared.outcome.Outcome.{Outcome}
use Rattle.embed_calls.proofs.Redone.{few_made, redone, too_short}
use Rattle.embed_calls.proofs.redo.redo_log.Goals as goal

pub put_volume-requires : goal.put_volume-requires
put_volume-requires c =
    let found = c.in-Ok.ensures.found in
    few_made found.0 _ found.1.1.1.1.0 (c.pages.ensures ∙ found.1.1.0.pages)

pub returns-in-Ok-clause-made : goal.returns-in-Ok-clause-made
returns-in-Ok-clause-made c = λ ok.
    let found = c.in-Ok.ensures.found in
    let put = c.put_volume.ensures in
    redone found.0 _ _ _ c.pages.result.now _ (record { spells = found.1.1.1.1.1; linked = found.1.1.1.0 })
    (c.pages.ensures ∙ found.1.1.0.pages) (put.count ok) (put.fits ok) (put.bytes ok) (put.behind ok)

pub returns-in-Ok-clause-short : goal.returns-in-Ok-clause-short
returns-in-Ok-clause-short c = λ code.
    let found = c.in-Ok.ensures.found in
    let put = c.put_volume.ensures in
    let wrong : c.put_volume.result.code ≢ 0 = λ right. absurd (omega arith) in
    too_short found.0 _ _ _ c.pages.result.now (record { spells = found.1.1.1.1.1; linked = found.1.1.1.0 })
    (c.pages.ensures ∙ found.1.1.0.pages) (ap (λ (o : Outcome). o.first) (put.code wrong)) (put.short wrong)
