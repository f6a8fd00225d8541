use Rattle.std.proofs.Common.{◌≡◌, ◌-◌, None, ap, sym, subst, ◌∙◌, arith, slice_get}
use Rattle.std.specs.Prelude.{MatchOption, Some, IsSomeAnd, IsTrue}
use Rattle.std.proofs.lemmas.Grind.{common_steps}
use Rattle.log_rules.specs.declared.pending_change.PendingChange.{PendingChange}
use Rattle.log_rules.specs.Table.{TxnEntry, Table, entry_in}
use Rattle.log_rules.specs.Transactions.{pending}
use Rattle.txn_table.proofs.Tables.{entry_is}
use Rattle.txn_table.proofs.Viewed.{table_is}
use Rattle.txn_table.proofs.table.TxnTable.is_update.Goals as goal

pub returns-in-Some : goal.returns-in-Some
returns-in-Some c = λ rs of still.
    let place = c.args.count - 1 in
    let here = subst (λ o. MatchOption o (c.pending_at.result ≡ None)
    (λ (e : TxnEntry). c.pending_at.result ≡ slice_get e.pending place))
    (ap (λ (t : Table). entry_in t c.args.txn) (table_is c.self.view_is) ∙ entry_is rs c.args.self.now.table c.args.txn of still)
    c.pending_at.ensures in
    let found : slice_get (pending rs c.args.txn) place ≡ Some c.in-Some.change = sym here ∙ c.in-Some.is in
    let first : IsTrue c.eq.result → c.in-Some.change.lsn ≡ c.args.lsn = λ is. grind (arith, common_steps) in
    let back : c.in-Some.change.lsn ≡ c.args.lsn → IsTrue c.eq.result = λ is. grind (arith, common_steps) in (
      λ is. (omega arith, subst (λ o. IsSomeAnd o (λ (p : PendingChange). p.lsn ≡ c.args.lsn)) (sym found) (first is)),
      λ has. back (subst (λ o. IsSomeAnd o (λ (p : PendingChange). p.lsn ≡ c.args.lsn)) found has.1),
    )

pub returns-in-None : goal.returns-in-None
returns-in-None c = λ rs of still.
    let place = c.args.count - 1 in
    let here = subst (λ o. MatchOption o (c.pending_at.result ≡ None)
    (λ (e : TxnEntry). c.pending_at.result ≡ slice_get e.pending place))
    (ap (λ (t : Table). entry_in t c.args.txn) (table_is c.self.view_is) ∙ entry_is rs c.args.self.now.table c.args.txn of still)
    c.pending_at.ensures in
    let found : slice_get (pending rs c.args.txn) place ≡ None = sym here ∙ c.in-None.is in (
      λ is. absurd (cc),
      λ has. absurd (subst (λ o. IsSomeAnd o (λ (p : PendingChange). p.lsn ≡ c.args.lsn)) found has.1),
    )
