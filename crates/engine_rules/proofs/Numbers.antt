-- The numbers in the slots of a valid log.
use Rattle.std.proofs.Common.{ℕ, ◌^◌, ◌<◌, List, [], ◌∷◌, length, get_or, subst, arith, inl, inr}
use Rattle.std.specs.Prelude.{Option, IfSome}
use Rattle.std.specs.List.{All}
use Rattle.std.proofs.lemmas.Bool.{cases_lt}
use Rattle.std.proofs.lemmas.List.{get_or_past}
use Rattle.std.proofs.lemmas.List.Elements.{All-head, All-replicate, All-set, All-tail}
use Rattle.page_core.specs.declared.page.Page.{Page}
use Rattle.page_core.specs.Change.{changed}
use Rattle.page_core.specs.Page.{formatted}
use Rattle.log_records.specs.declared.page_change.PageChange.{PageChange}
use Rattle.log_records.specs.declared.record.Record.{Record}
use Rattle.log_records.specs.Image.{image_from, with_record}
use Rattle.log_rules.specs.Linked.{number_in}
use Rattle.log_records.specs.Record.{IsPageChange, IsRecord}
use Rattle.log_records.proofs.Public.{changed_fits, valid_change, with_record-has}

slots_with_record : (page : Page) (r : Record) → IsRecord r → All (λ n. n < 2 ^ 64) page.slots
    → All (λ n. n < 2 ^ 64) (with_record page r).slots
slots_with_record page r valid all = with_record-has (λ q. All (λ n. n < 2 ^ 64) q.slots) page r all (λ c e.
    let fits : IsPageChange c = subst (λ (o : Option PageChange). IfSome o IsPageChange) e (valid_change r valid).1 in
    let number = get_or page.slots c.slot 0 in
    let new = changed_fits c.change number fits.change in
    All-set (λ n. n < 2 ^ 64) page.slots c.slot (changed c.change number) new all)

slots_image_from : (page : Page) (rs : List Record) → All IsRecord rs → All (λ n. n < 2 ^ 64) page.slots
    → All (λ n. n < 2 ^ 64) (image_from page rs).slots
slots_image_from page [] valid all = all
slots_image_from page (r ∷ rs) valid all =
    slots_image_from (with_record page r) rs (All-tail IsRecord r rs valid)
    (slots_with_record page r (All-head IsRecord r rs valid) all)

pub number_fits : (rs : List Record) (page slot : ℕ) → All IsRecord rs → number_in rs page slot < 2 ^ 64
unfolding formatted
number_fits rs page slot valid =
    let slots = (image_from (formatted page) rs).slots in
    let all = slots_image_from (formatted page) rs valid (All-replicate (λ n. n < 2 ^ 64) 62 0 (omega arith)) in
    elim (cases_lt slot (length slots)) [
      | inl lt ↦ all slot 0 lt
      | inr past ↦ omega (arith, get_or_past slots slot 0 past)
    ]
