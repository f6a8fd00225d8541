-- The files of a day that are put in place.
use Rattle.std.specs.Prelude.{ℕ, List, Option}
use Rattle.std.specs.Io.KnownBytes.{Appends}
use Rattle.imgcopy_engine.specs.fuzzy_ckpt.declared.point.Point.{Point}
use Rattle.imgcopy_engine.specs.log_store.Master.{master_bytes}

-- the master record of a checkpoint was written, and nothing else
abbrev pub WritesMasterOf : Point → Option (List ℕ) → Option (List ℕ) → Type 0
WritesMasterOf point old new =
    Appends old new (master_bytes (record { begin = point.begin; end = point.end }))
