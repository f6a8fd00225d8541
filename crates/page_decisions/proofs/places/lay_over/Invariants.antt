use Rattle.std.proofs.Common.{◌≡◌, map, take}
use Rattle.page_decisions.specs.Slots.{laid, page_list, values}
use Rattle.page_decisions.proofs.places.lay_over.Given as goal

abbrev pub invariant-loop-i : goal.invariant-loop-i
invariant-loop-i l = map page_list l.pages ≡ laid (take l.i (values l.places)) (map page_list l.fn.pages)
