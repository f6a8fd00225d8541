use Rattle.std.proofs.Common.{◌≡◌, ◌<◌, ◌++◌, ◌∙◌, List, [], ◌∷◌, length, get_or, map, take, sym, ap, arith}
use Rattle.std.specs.Prelude.{slice_set, Option, Some}
use Rattle.std.specs.Borrow.{Bor}
use Rattle.std.specs.declared.alloc.Global.{Global}
use Rattle.std.specs.declared.boxed.Box.{Box}
use Rattle.std.proofs.lemmas.List.{get_or-map, length-map, map-set, set_past, take_more}
use Rattle.page_core.specs.declared.page.Page.{Page}
use Rattle.page_decisions.specs.Slots.{laid, page_list, values}
use Rattle.page_decisions.proofs.Laid.{laid_push}
use Rattle.page_decisions.proofs.places.lay_over.Goals.{else-number-pages, then-number-pages}
use Rattle.page_decisions.proofs.places.lay_over.Goals as goal

pub loop-i-preserved : goal.loop-i-preserved
loop-i-preserved c =
    let places = c.args.places.now in
    let vs = values places in
    let old = map page_list c.args.pages.now in
    let now = map page_list c.loop-i.pages in
    let i = c.loop-i.i in
    let box = c.index-places-i.result in
    let n = c.behind-place.inside.0.0.0 in
    let so_far = laid (take i vs) old in
    let here : i < length places = omega arith in
    let lt : i < length vs = omega (arith, length-map places (λ place. place.value)) in
    let at : get_or vs i box.value ≡ box.value =
    get_or-map (λ (b : Box Page Global). b.value) places i box box.value here
    ∙ ap (λ (b : Box Page Global). b.value) (sym c.index-places-i.is) in
    let number : n ≡ box.value.number = omega (
      arith,
      ap (λ (p : Page). p.number) c.behind-place.view_is,
      ap (λ (p : Page). p.number) c.deref.ensures,
    ) in
    let put : map page_list c.if-number-pages.pages ≡ slice_set now n (box.value ∷ []) = elim c.if-number-pages.branch [
      | then-number-pages w ↦ ap (λ (xs : List (Option (Bor Page))). map page_list xs) w.pages-is
          ∙ map-set page_list c.loop-i.pages n (Some w.deref-then-number-pages.result)
          ∙ ap (λ (x : Page). slice_set now n (x ∷ [])) w.deref-then-number-pages.ensures
      | else-number-pages w ↦ let past = w.if-number-pages.false in
          ap (λ (xs : List (Option (Bor Page))). map page_list xs) w.pages-is
          ∙ sym (set_past now n (box.value ∷ []) (omega (arith, length-map c.loop-i.pages page_list)))
    ] in
    put ∙ ap (λ (ps : List (List Page)). slice_set ps n (box.value ∷ [])) c.loop-i.invariant
    ∙ ap (λ k. slice_set so_far k (box.value ∷ [])) number
    ∙ sym (laid_push (take i vs) old box.value)
    ∙ sym (ap (λ (ts : List Page). laid ts old)
    (take_more vs i box.value lt ∙ ap (λ (x : Page). take i vs ++ x ∷ []) at))
