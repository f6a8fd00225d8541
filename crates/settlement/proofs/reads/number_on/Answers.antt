use Rattle.std.proofs.Common.{◌≡◌, ◌∙◌, ◌<◌, ◌≤◌, ap, sym, refl, arith, length, get_or, slice_index_or, List}
use Rattle.std.specs.Option.{is_some}
use Rattle.std.proofs.lemmas.Bool.{ltb-false, ltb-true}
use Rattle.page_core.specs.declared.page.Page.{Page}
use Rattle.log_rules.proofs.Public.{number_of_volume}
use Rattle.settlement.proofs.Below.{number_outside, number_past}
use Rattle.settlement.proofs.reads.number_on.Goals as goal

pub returns-in-Some : goal.returns-in-Some
returns-in-Some c = λ rs within made.
    let pages = c.args.pages.now in
    let page = c.page.inside.0 in
    let slot = c.slot.inside.0 in
    let n = length pages in
    let lt : page < n = ltb-true page n (sym c.in-Some.ensures.lookup.0) in
    ap (λ (q : Page). slice_index_or q.slots slot 0) c.in-Some.ensures.lookup.1
    ∙ ap (λ (xs : List Page). slice_index_or (get_or xs page c.in-Some.page.now).slots slot 0) made
    ∙ number_of_volume rs n page slot c.in-Some.page.now lt
    ∙ rw (c.page.view_is, c.slot.view_is) refl

pub returns-in_default : goal.returns-in_default
returns-in_default c = λ rs within made.
    sym (number_past rs c.args.page c.args.slot
    (let v = c.slot.view_is in let past = c.if-slot-lt-SLOTS.false in omega arith))

pub returns-in_default-2 : goal.returns-in_default-2
returns-in_default-2 c = λ rs within made.
    let n = length c.args.pages.now in
    let here = c.page.inside.0 in
    let past : n ≤ here = ltb-false here n (sym c.get.ensures.lookup.0 ∙ ap is_some c.in_default.is) in
    let page = c.args.page in
    let same : here ≡ page = c.page.view_is in
    let out : n ≤ page = omega arith in
    sym (number_outside rs n page c.args.slot within out)
