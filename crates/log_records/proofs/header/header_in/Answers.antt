use Rattle.std.proofs.Common.{refl, ◌∙◌}
use Rattle.log_records.specs.Log.{header_in}
use Rattle.log_records.proofs.header.header_in.Goals as goal

pub returns : goal.returns
unfolding header_in
returns c = rw (c.copy_from_slice.ensures.after, c.copy_from_slice-2.ensures.after ∙ c.to_le_bytes.ensures, c.digit.ensures) refl
