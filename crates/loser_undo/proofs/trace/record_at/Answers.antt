use Rattle.std.proofs.Common.{◌∙◌, List, length, get_or, ap, arith}
use Rattle.log_records.specs.declared.record.Record.{Record}
use Rattle.loser_undo.proofs.trace.record_at.Goals as goal

pub offset_bounds-records-count_before : goal.offset_bounds-records-count_before
offset_bounds-records-count_before c =
    let s = c.requires.1 in
    let place = c.count_before.ensures s.place s.at_is in
    let within = s.within in
    let few = c.records.ensures.valid.count in
    omega (arith, place, within, few)

pub bounds-records-count_before : goal.bounds-records-count_before
bounds-records-count_before c =
    let s = c.requires.1 in
    let place = c.count_before.ensures s.place s.at_is in
    let within = s.within in
    omega (arith, place, within, ap length c.records.ensures.records)

pub returns-clause-is : goal.returns-clause-is
returns-clause-is c = λ r stands.
    let d = c.index-records-count_before.result in
    c.index-records-count_before.is
    ∙ ap (λ (n : _). get_or c.records.result.now n d) (c.count_before.ensures stands.place stands.at_is)
    ∙ ap (λ (xs : List Record). get_or xs stands.place d) c.records.ensures.records ∙ stands.is d
