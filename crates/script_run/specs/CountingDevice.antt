-- What a device holds that keeps no byte.
use Rattle.std.specs.Prelude.{ℕ, List, [], ◌∷◌, ◌++◌, take}
use Rattle.script_run.specs.declared.counting_device.Stored.{Stored}
use Rattle.script_run.specs.declared.counting_device.Stored.TheVariants.{Nothing, First', With'}

abbrev pub stored_bytes : Stored → List ℕ
stored_bytes Nothing = []
stored_bytes (First' marker before at) = take at.value (stored_bytes before)
stored_bytes (With' marker before byte) = stored_bytes before ++ byte.value ∷ []
