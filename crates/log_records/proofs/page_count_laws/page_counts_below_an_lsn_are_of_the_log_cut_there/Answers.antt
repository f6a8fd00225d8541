use Rattle.std.proofs.Common.{◌-◌, ◌/◌}
use Rattle.log_records.proofs.PageCounts.{page_count_at-not_more}
use Rattle.log_records.proofs.page_count_laws.page_counts_below_an_lsn_are_of_the_log_cut_there.Goals as goal

pub returns-clause-most : goal.returns-clause-most
returns-clause-most c = λ log lsn. page_count_at-not_more log ((lsn - 1) / 64)
