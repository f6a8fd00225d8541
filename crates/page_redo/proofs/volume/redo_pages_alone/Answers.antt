use Rattle.std.proofs.Common.{◌∙◌, ◌-◌, ◌<◌, ◌≤◌, ℕ, List, length, map, take, drop, ap, sym, subst, arith}
use Rattle.std.proofs.lemmas.List.{length-drop, take_all}
use Rattle.log_records.specs.declared.record.Record.{Record}
use Rattle.log_records.specs.Coverage.{resume}
use Rattle.log_records.specs.Log.{AreWithin, Log}
use Rattle.page_redo.specs.Redo.{redone_all}
use Rattle.page_redo.proofs.Volumes.{all_resumed, count_of, none_resumed, valid_of, within_part}
use Rattle.page_redo.proofs.volume.redo_pages_alone.Goals as goal

pub redo_records-requires-clause-within : goal.redo_records-requires-clause-within
redo_records-requires-clause-within c =
    let rs = c.records-records.result.now in
    let of = c.args.log.now in
    let k = c.records_below-first.result in
    let same = c.records-records.ensures.records in
    subst (λ (n : ℕ). AreWithin n (take (length rs - k) (drop k rs))) (count_of of rs same ∙ sym c.requires.count)
    (within_part (record of { records = rs }) k (valid_of of rs same c.records-records.ensures.valid))

pub returns-then-first-records : goal.returns-then-first-records
returns-then-first-records c =
    let rs = c.records-records.result.now in
    let pages = c.args.pages.now in
    let log : Log = record { pages = c.args.log.now.pages; records = rs } in
    let valid = valid_of c.args.log.now rs c.records-records.ensures.records c.records-records.ensures.valid in
    let k = c.records_below-first.result in
    let back = c.records_below-first.ensures in
    let there : k < length rs = c.if-first-records.true in
    c.redo_records.ensures
    ∙ ap (λ (xs : List Record). map (λ page. redone_all page xs) pages)
    (take_all (length rs - k) (drop k rs) (omega (arith, length-drop k rs)))
    ∙ all_resumed log c.args.from k pages valid (omega arith) (omega arith) (omega arith)
    ∙ ap (λ (xs : List Record). map (λ page. resume page xs c.args.from) pages) c.records-records.ensures.records

pub returns-else-first-records : goal.returns-else-first-records
returns-else-first-records c =
    let rs = c.records-records.result.now in
    let pages = c.args.pages.now in
    let log : Log = record { pages = c.args.log.now.pages; records = rs } in
    let valid = valid_of c.args.log.now rs c.records-records.ensures.records c.records-records.ensures.valid in
    let k = c.records_below-first.result in
    let back = c.records_below-first.ensures in
    let past : length rs ≤ k = c.if-first-records.false in
    none_resumed log c.args.from pages valid (omega arith)
    ∙ ap (λ (xs : List Record). map (λ page. resume page xs c.args.from) pages) c.records-records.ensures.records
