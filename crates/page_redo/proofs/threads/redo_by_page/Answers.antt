use Rattle.std.proofs.Common.{◌≡◌, ◌∙◌, ◌<◌, ℕ, List, [], length, get_or, map, ap, sym, arith}
use Rattle.std.proofs.lemmas.List.{get_or-map, length-map, same_lists}
use Rattle.std.proofs.lemmas.List.FromFn.{get_or-map-range_with_len}
use Rattle.page_core.specs.declared.page.Page.{Page}
use Rattle.log_records.specs.Coverage.{resume}
use Rattle.page_redo.specs.PageRecords.{numbers_on}
use Rattle.log_store.specs.PageHistory.{records_at}
use Rattle.page_redo.specs.Redo.{redone}
use Rattle.page_redo.proofs.Listed.{redone_list}
use Rattle.page_redo.proofs.threads.redo_by_page.Goals as goal

pub returns : goal.returns
returns g c = λ from is.
    let pages = c.args.pages.now in
    let new = c.par_for_each_mut.new.s in
    let rs = c.args.records.now in
    let lists = c.args.lists.now in
    let long : length new ≡ length pages = c.par_for_each_mut.auto.s in
    let again = length-map pages (λ page. resume page rs from) in
    same_lists new (map (λ page. resume page rs from) pages) (omega arith) (λ k d lt.
    let below : k < length pages = omega arith in
    let listed : k < length lists = let many = c.requires.many in omega arith in
    let at = (c.par_for_each_mut.ensures k d below).1 in
    let page = get_or pages k d in
    let number : page.number ≡ k = c.requires.numbered k d below in
    let list : get_or lists k [] ≡ numbers_on rs from k = ap (λ (ls : List (List ℕ)). get_or ls k []) is
    ∙ get_or-map-range_with_len (numbers_on rs from) 0 (length lists) k k [] listed (omega arith) in
    sym at.left ∙ at.call
    ∙ ap (λ (p : Page). redone p (records_at rs (get_or lists p.number []))) at.argument_is
    ∙ ap (λ (n : ℕ). redone page (records_at rs (get_or lists n []))) number
    ∙ ap (λ (ns : List ℕ). redone page (records_at rs ns)) list
    ∙ redone_list rs from k page number
    ∙ sym (get_or-map (λ page. resume page rs from) pages k d d below))
