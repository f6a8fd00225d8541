use Rattle.log_records.proofs.PageCounts.{page_count-is_count}
use Rattle.log_records.proofs.page_count_laws.page_counts_are_those_of_a_header.Goals as goal

pub returns : goal.returns
returns c = λ log valid. page_count-is_count log valid
