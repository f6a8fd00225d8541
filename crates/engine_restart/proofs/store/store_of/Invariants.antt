use Rattle.std.proofs.Common.{ℕ, ◌≡◌, ◌<◌, get_or, length}
use Rattle.page_core.specs.declared.page.Page.{Page}
use Rattle.engine_restart.proofs.store.store_of.Given as goal

-- the pages so far are stored
abbrev pub invariant-loop-number : goal.invariant-loop-number
invariant-loop-number l = record {
  long : length l.store ≡ length l.pages;
  stored : (k : ℕ) (d : Page) → k < l.number → get_or l.store k d ≡ get_or l.pages k d;
}
