use Rattle.std.proofs.Common.{◌≡◌, length, ap, ◌∙◌, arith}
use Rattle.log_rules.specs.Table.{Table}
use Rattle.log_rules.specs.Transactions.{begun}
use Rattle.txn_table.proofs.Tables.{begun_few}
use Rattle.txn_table.proofs.Viewed.{table_is}
use Rattle.txn_table.proofs.table.TxnTable.begin.Goals as goal

pub overflow_add-result : goal.overflow_add-result
overflow_add-result c =
    let rs = c.requires.0 in
    let of = c.requires.1 in
    let few = of.few in
    let is : c.begun.result ≡ length (begun rs) = c.begun.ensures
    ∙ ap (λ (t : Table). t.begun) ((table_is c.self.view_is) ∙ of.made) in
    omega (arith, few, begun_few rs, is)

pub returns : goal.returns
returns c = λ rs of.
    let is : c.begun.result ≡ length (begun rs) = c.begun.ensures
    ∙ ap (λ (t : Table). t.begun) ((table_is c.self.view_is) ∙ of.made) in
    omega arith
