use Rattle.std.proofs.Common.{◌≡◌, vec_capacity, vec_len}
use Rattle.page_claim.specs.Rule.{pages_below}
use Rattle.page_claim.proofs.closing.first_pages.Given as goal

abbrev pub invariant-loop-number : goal.invariant-loop-number
invariant-loop-number l =
    (l.pages.items ≡ pages_below l.number) × (vec_len l.pages ≡ l.number)
    × (vec_capacity l.pages ≡ vec_capacity l.initial.pages)
