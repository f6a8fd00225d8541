use Rattle.std.proofs.Common.{◌∙◌, rules, ap, arith, get_or, ltb}
use Rattle.std.proofs.lemmas.Bool.{ltb-true}
use Rattle.std.proofs.lemmas.List.{take_rest}
use Rattle.std.proofs.lemmas.List.Sorted.{IsPartitionPoint-from_clause, IsPartitionedBy-ltb}
use Rattle.page_redo.specs.Placed.{Placed, redone_each}
use Rattle.page_redo.proofs.Pieces.{redone_without}
use Rattle.page_redo.proofs.changes.changes_from.Goals as goal

pub returns : goal.returns
returns c = λ rise page.
    let changes = c.args.changes.now in
    let from = c.args.from in
    let first = c.partition_point-first.result in
    let parted = IsPartitionedBy-ltb (λ (x : Placed). x.lsn) changes from rise in
    let point = IsPartitionPoint-from_clause (λ (x : Placed). ltb x.lsn from) changes first
    c.partition_point-first.ensures.partitioned parted (λ a r q k. search rules) in
    ap (λ cs. redone_each cs from page) (take_rest changes first)
    ∙ redone_without from first page changes
    (λ i d lt within. ltb-true (get_or changes i d).lsn from (point.0 i d (omega arith) lt))
