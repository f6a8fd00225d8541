use Rattle.std.proofs.Common.{ℕ, ◌≡◌, ◌<◌, get_or}
use Rattle.page_core.specs.declared.page.Page.{Page}
use Rattle.database_backup.proofs.closed_volume.have_same_numbers.Given as goal

abbrev pub invariant-loop-place : goal.invariant-loop-place
invariant-loop-place l = (p : ℕ) (d : Page) → p < l.place → (get_or l.new p d).slots ≡ (get_or l.old p d).slots
