-- A master record that was read before the other files.
use Rattle.std.specs.Prelude.{ℕ, List, Option, None, Some, if◌then◌else◌, string_bytes}
use Rattle.std.specs.Str.{bytes_eq}
use Rattle.file_inputs.specs.declared.early_master.EarlyMaster.{EarlyMaster}
use Rattle.file_inputs.specs.declared.early_master.EarlyFile.{EarlyFile}
use Rattle.file_inputs.specs.declared.early_master.EarlyFile.TheVariants.{Kept, Opened}

-- the bytes under each name: under that of the master record those that were read
abbrev pub bytes_with : (List ℕ → Option (List ℕ)) → Option EarlyMaster → List ℕ → Option (List ℕ)
bytes_with bytes None name = bytes name
bytes_with bytes (Some it) name =
    if bytes_eq (string_bytes it.name) name then Some it.bytes.items else bytes name

-- what an open file has left
abbrev pub left_of : {F : Type 0} → (F → Option (List ℕ)) → EarlyFile F → Option (List ℕ)
left_of remaining (Opened file) = remaining file
left_of remaining (Kept bytes) = Some bytes.now
