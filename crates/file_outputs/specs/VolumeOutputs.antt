-- Where a volume goes.
use Rattle.std.specs.Prelude.{List, ℕ, None, Option, Some, codes, if◌then◌else◌}
use Rattle.std.specs.Borrow.{Bor}
use Rattle.std.specs.Str.{bytes_eq}
use Rattle.file_outputs.specs.declared.volume_output.VolumeOutput.{VolumeOutput}
use Rattle.file_outputs.specs.declared.volume_output.VolumeOutput.TheVariants.{File, Piped, Standard}

-- where the words of a command have it go: without a name to standard output, but to no terminal;
-- by `-` to standard output, whatever that is; and by any other name into a file
abbrev pub output_of : Option (Bor (List ℕ)) → VolumeOutput
output_of None = Piped
output_of (Some path) = if bytes_eq path.now (codes "-") then Standard else File path
