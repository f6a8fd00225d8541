use Rattle.std.proofs.Common.{rules}
use Rattle.log_records.specs.PageCount.{count_behind}
use Rattle.log_store.proofs.history.History.start.Goals as goal

pub returns : goal.returns
unfolding count_behind
returns c = search rules
