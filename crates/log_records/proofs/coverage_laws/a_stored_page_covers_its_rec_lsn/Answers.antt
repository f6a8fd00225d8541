use Rattle.log_records.proofs.Coverage.{clean_is_image, dirty_covers}
use Rattle.log_records.proofs.coverage_laws.a_stored_page_covers_its_rec_lsn.Goals as goal

pub returns-clause-dirty : goal.returns-clause-dirty
returns-clause-dirty c = λ log number page written rec valid past reached e.
    dirty_covers log.records number page written rec past reached e

pub returns-clause-clean : goal.returns-clause-clean
returns-clause-clean c = λ log number page written valid past reached e.
    clean_is_image log number page written valid past reached e
