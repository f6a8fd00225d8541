use Rattle.checked_files.proofs.Knowns.{reason}
use Rattle.checked_files.proofs.laws.left_aside_for_a_reason.Goals as goal

pub returns : goal.returns
returns c choice manifest it file is = reason choice manifest it file is
