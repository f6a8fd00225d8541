use Rattle.txn_table.proofs.Beside.{returns_kept, table_kept}
use Rattle.txn_table.proofs.laws.an_extend_leaves_the_table.Goals as goal

pub returns-clause-table : goal.returns-clause-table
returns-clause-table c = λ rs lsn pages table few is. table_kept rs lsn pages table few is

pub returns-clause-returns : goal.returns-clause-returns
returns-clause-returns c = λ rs lsn pages. returns_kept rs lsn pages
