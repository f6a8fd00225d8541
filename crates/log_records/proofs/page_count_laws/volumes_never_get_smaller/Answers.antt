use Rattle.log_records.proofs.PageCounts.{page_count-not_less, page_count_at-append}
use Rattle.log_records.proofs.page_count_laws.volumes_never_get_smaller.Goals as goal

pub returns-clause-longer : goal.returns-clause-longer
returns-clause-longer c = λ log more. page_count-not_less log more

pub returns-clause-before : goal.returns-clause-before
returns-clause-before c = λ log more n le. page_count_at-append log more n le
