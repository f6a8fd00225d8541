use Rattle.log_records.proofs.PageCounts.{all_within, stands_in}
use Rattle.log_records.proofs.page_count_laws.records_name_pages_of_the_volume.Goals as goal

pub returns-clause-stands : goal.returns-clause-stands
returns-clause-stands c = λ log i d valid lt. stands_in log valid i d lt

pub returns-clause-within : goal.returns-clause-within
returns-clause-within c = λ log valid. all_within log valid
