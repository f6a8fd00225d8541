-- How often something has failed.
use Rattle.std.specs.Prelude.{ℕ, ◌+◌}
use Rattle.page_core.specs.declared.failures.Failures.{Failures, None, After'}

abbrev pub failure_count : Failures → ℕ
failure_count None = 0
failure_count (After' marker before) = failure_count before + 1
