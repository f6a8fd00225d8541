use Rattle.std.proofs.Common.{inr, rules}
use Rattle.file_inputs.proofs.read_once.ReadOnce.keep.Goals as goal

pub returns : goal.returns
returns c = inr (record { name = c.in_ok-name.name; bytes = c.in_ok-bytes.bytes }, search rules, search rules)
