use Rattle.std.proofs.Common.{refl}
use Rattle.file_inputs.proofs.reasons.record_reason.Goals as goal

pub returns-then-is_no_kind : goal.returns-then-is_no_kind
returns-then-is_no_kind c = (refl, c.is_no_kind.ensures.0 c.if-is_no_kind.true)
