use Rattle.log_records.proofs.PageCounts.{count_below-counts_of, last_count-counts_of}
use Rattle.log_records.proofs.page_count_laws.given_counts_say_the_page_count.Goals as goal

pub returns-clause-last : goal.returns-clause-last
returns-clause-last c = λ log. last_count-counts_of log

pub returns-clause-below : goal.returns-clause-below
returns-clause-below c = λ log lsn valid. count_below-counts_of log lsn valid
