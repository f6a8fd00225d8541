-- A reader and a writer that sum.

-- the reader below: as it was when nothing was summed yet, and as it is
pub record Summing (R : Type 0) : Type 0 where
  pub begun : R
  pub reached : R
