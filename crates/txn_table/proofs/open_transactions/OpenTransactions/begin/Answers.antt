use Rattle.std.proofs.Common.{◌≡◌, ◌∙◌, ◌+◌, subst, sym, arith}
use Rattle.txn_table.specs.OpenTransactions.{IsStored}
use Rattle.txn_table.proofs.Stored.{stored-add}
use Rattle.txn_table.proofs.open_transactions.OpenTransactions.begin.Goals as goal

pub invariant_of-self-2 : goal.invariant_of-self-2
invariant_of-self-2 c =
    let next : c.txn.inside.0 ≡ c.self.inside.begun + 1 = omega (arith, c.if-txn-self.false) in
    let named : c.args.txn ≡ c.self.inside.begun + 1 = sym c.txn.view_is ∙ next in
    subst (λ n. IsStored n c.self.inside.claims c.add.new.self) (sym (c.txn-2.view_is ∙ named))
    (stored-add c.add.new.self c.args.txn c.args.lsn c.self.invariant c.add.ensures.sound c.in_ok-add.ensures.ok named)
