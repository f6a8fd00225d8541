-- What callers see of a shared engine.
use Rattle.std.specs.Prelude.{ℕ}
use Rattle.engine_run.specs.Held.{HeldView}
use Rattle.engine_run.specs.declared.beginning.Beginning.{Beginning}

-- how many sessions were made, and what was there before the first one
pub record SharedView : Type 0 where
  pub sessions : ℕ
  pub began : Beginning

-- out of its lock: what lay there too
pub record OpenedView (S D : Type 0) : Type 0 where
  pub held : HeldView S D
  pub sessions : ℕ
  pub began : Beginning
