use Rattle.std.proofs.Common.{◌≡◌, drop}
use Rattle.file_inputs.specs.ReadOnce.{bytes_in}
use Rattle.file_inputs.proofs.read_once.ReadOnce.bytes_of.Given as goal

abbrev pub invariant-loop-input : goal.invariant-loop-input
invariant-loop-input l = bytes_in (drop l.input-index l.input-items) l.name ≡ bytes_in l.self.kept.items l.name
