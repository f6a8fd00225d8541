-- The files that were put in place, and are to be named in the manifest.
use Rattle.std.specs.Prelude.{◌≡◌, false, None}
use Rattle.database_session.specs.declared.placed.Placed.{Placed}

-- nothing was put in place that is still to be named
abbrev pub IsNothing : Placed → Type 0
IsNothing placed = (placed.copy ≡ None) × (placed.master ≡ false)
