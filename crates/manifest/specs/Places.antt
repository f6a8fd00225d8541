-- Where an entry stands among others.
use Rattle.std.specs.Prelude.{ℕ, ◌≡◌, ◌<◌, List, length, take, slice_index_or}
use Rattle.manifest.specs.Entries.{Lacks, Noted}

-- the first entry of the name stands here
pub record HasNameAt (entries : List Noted) (name : List ℕ) (place : ℕ) : Type 0 where
  pub entry : Noted
  pub within : place < length entries
  pub here : slice_index_or entries place entry ≡ entry
  pub named : entry.name ≡ name
  pub before : Lacks name (take place entries)
