use Rattle.std.proofs.Common.{ℕ, List, length, drop, ap, sym, subst, ◌∙◌, arith}
use Rattle.log_records.specs.declared.record.Record.{Record}
use Rattle.loser_undo.specs.Tail.{IsTailOf}
use Rattle.loser_undo.proofs.Begins.{place_of_begin, tail_from, told_to}
use Rattle.loser_undo.proofs.tail.open_at_end.Goals as goal

pub behind-requires : goal.behind-requires
behind-requires c =
    let log = c.args.log.now in
    let master = c.args.master.now in
    let place = place_of_begin log master.begin master.end c.records-records.ensures.valid c.requires.complete in
    let first = c.count_before-first.ensures place.0 place.3 in
    let within = place.1 in
    omega (arith, first, within, ap length c.records-records.ensures.records)

pub returns-clause-open : goal.returns-clause-open
returns-clause-open c =
    let log = c.args.log.now in
    let master = c.args.master.now in
    let valid = c.records-records.ensures.valid in
    let place = place_of_begin log master.begin master.end valid c.requires.complete in
    let first = c.count_before-first.ensures place.0 place.3 in
    let tail : IsTailOf log c.behind.result.now =
    subst (IsTailOf log)
    (sym (c.behind.ensures ∙ ap (λ (xs : List Record). drop c.count_before-first.result xs) c.records-records.ensures.records
    ∙ ap (λ (n : ℕ). drop n log.records) first))
    (tail_from log master.begin master.end place.0 valid c.requires.linked c.requires.complete place.3) in
    told_to c.open_by_tail.result log c.behind.result.now tail c.open_by_tail.ensures
