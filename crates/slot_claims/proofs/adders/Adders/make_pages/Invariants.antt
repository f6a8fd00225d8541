use Rattle.std.proofs.Common.{ℕ, ◌≡◌, ◌+◌, ◌-◌, vec_len}
use Rattle.slot_claims.specs.Adders.{rows_at}
use Rattle.slot_claims.proofs.adders.Adders.make_pages.Given as goal

abbrev pub invariant-loop-self : goal.invariant-loop-self
invariant-loop-self l = (p s : ℕ) → rows_at l.self p s ≡ rows_at l.initial.self p s

abbrev pub decreases-loop-self : goal.decreases-loop-self
decreases-loop-self l = l.page + 1 - vec_len l.self.pages
