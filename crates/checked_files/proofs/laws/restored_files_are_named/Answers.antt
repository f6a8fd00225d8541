use Rattle.checked_files.proofs.Rights.{are_right}
use Rattle.checked_files.proofs.laws.restored_files_are_named.Goals as goal

pub returns-clause-volume : goal.returns-clause-volume
returns-clause-volume c bytes expected names old new it =
    are_right bytes expected names it.from.log it.from.master it.from.copies it.from.parts

pub returns-clause-part : goal.returns-clause-part
returns-clause-part c bytes expected names old new done it =
    are_right bytes expected names it.from.log it.from.master it.from.copies it.from.parts

pub returns-clause-both : goal.returns-clause-both
returns-clause-both c bytes expected names old new log_old log_new it =
    are_right bytes expected names it.from.from.log it.from.from.master it.from.from.copies it.from.from.parts
