use Rattle.log_records.specs.Log.{SpellsLog}
use Rattle.checked_files.proofs.Rights.{all_right, few_of_log, right}
use Rattle.checked_files.proofs.laws.audited_files_are_named.Goals as goal

pub returns-clause-log : goal.returns-clause-log
returns-clause-log c bytes expected log archives it =
    right (SpellsLog it.log) (few_of_log it.log) _ _ it.of_log.spelled

pub returns-clause-archives : goal.returns-clause-archives
returns-clause-archives c bytes expected log archives it =
    all_right (λ name. name) bytes expected archives it.copies it.of_archives.spelled
