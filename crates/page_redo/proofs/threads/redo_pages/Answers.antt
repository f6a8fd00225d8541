use Rattle.std.proofs.Common.{◌≡◌, ◌∙◌, ◌-◌, ◌<◌, ℕ, List, length, map, take, drop, ap, sym, arith}
use Rattle.std.specs.List.{range_with_len}
use Rattle.std.proofs.lemmas.List.{length-drop, take_all}
use Rattle.std.proofs.lemmas.List.FromFn.{length-map-range_with_len}
use Rattle.log_records.specs.declared.record.Record.{Record}
use Rattle.log_records.specs.Coverage.{resume}
use Rattle.log_records.specs.Log.{Log}
use Rattle.log_records.proofs.Public.{page_count-is_count}
use Rattle.page_redo.specs.PageRecords.{numbers_on}
use Rattle.page_redo.proofs.Volumes.{resumed_behind, valid_of}
use Rattle.page_redo.proofs.threads.redo_pages.Goals as goal

pub overflow_cast-pages : goal.overflow_cast-pages
overflow_cast-pages g c =
    omega (arith, c.requires.count, (page_count-is_count c.args.log.now c.records-records.ensures.valid).most)

pub redo_by_page-requires-clause-many : goal.redo_by_page-requires-clause-many
redo_by_page-requires-clause-many g c =
    let rs = c.records-records.result.now in
    let k = c.records_below-first.result in
    let behind = take (length rs - k) (drop k rs) in
    let n = length c.args.pages.now in
    let lists = ap (λ (ls : List (List ℕ)). length ls) c.in-Ok.ensures.numbers in
    let long = length-map-range_with_len (numbers_on behind c.args.from) 0 n in
    omega arith

pub returns-in-Ok : goal.returns-in-Ok
returns-in-Ok g c =
    let rs = c.records-records.result.now in
    let pages = c.args.pages.now in
    let log : Log = record { pages = c.args.log.now.pages; records = rs } in
    let valid = valid_of c.args.log.now rs c.records-records.ensures.records c.records-records.ensures.valid in
    let k = c.records_below-first.result in
    let behind = take (length rs - k) (drop k rs) in
    let n = length pages in
    let back = c.records_below-first.ensures in
    let there : k < length rs = c.if-first-records.true in
    let lists : length c.in-Ok.lists ≡ n = ap (λ (ls : List (List ℕ)). length ls) c.in-Ok.ensures.numbers
    ∙ length-map-range_with_len (numbers_on behind c.args.from) 0 n in
    c.redo_by_page.ensures c.args.from
    (c.in-Ok.ensures.numbers
    ∙ ap (λ (m : ℕ). map (numbers_on behind c.args.from) (range_with_len 0 m)) (sym lists))
    ∙ ap (λ (xs : List Record). map (λ page. resume page xs c.args.from) pages)
    (take_all (length rs - k) (drop k rs) (omega (arith, length-drop k rs)))
    ∙ resumed_behind log c.args.from k pages valid (omega arith) (omega arith)
    ∙ ap (λ (xs : List Record). map (λ page. resume page xs c.args.from) pages) c.records-records.ensures.records
