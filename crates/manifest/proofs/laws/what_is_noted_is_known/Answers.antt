use Rattle.manifest.proofs.Names.{noted_known, others_kept, others_left, removed_unknown}
use Rattle.manifest.proofs.laws.what_is_noted_is_known.Goals as goal

pub returns-clause-noted : goal.returns-clause-noted
returns-clause-noted c = noted_known

pub returns-clause-kept : goal.returns-clause-kept
returns-clause-kept c = others_kept

pub returns-clause-removed : goal.returns-clause-removed
returns-clause-removed c = removed_unknown

pub returns-clause-left : goal.returns-clause-left
returns-clause-left c = others_left
