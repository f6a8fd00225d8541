use Rattle.std.proofs.Common.{◌≡◌, ◌∙◌, inl, inr, List, ap, sym, subst, arith, true}
use Rattle.std.specs.Prelude.{Some, None, if◌then◌else◌}
use Rattle.std.proofs.lemmas.Grind.{common_steps}
use Rattle.std.proofs.lemmas.Option.{same_Some}
use Rattle.txn_table.specs.declared.txn_state.TxnState.{TxnState}
use Rattle.log_rules.specs.Table.{entry_of}
use Rattle.log_records.specs.declared.record.Record.{Record}
use Rattle.log_rules.specs.Transactions.{is_open}
use Rattle.txn_table.specs.TxnTable.{IsTableOf}
use Rattle.txn_table.specs.TxnState.{state_of}
use Rattle.txn_table.specs.Returns.{AreRising, HasReturns}
use Rattle.txn_table.proofs.Comps.{returns_rise}
use Rattle.txn_table.proofs.Going.{return_at}
use Rattle.txn_table.proofs.GoneReturns.{among_all, among_kept, still_rising}
use Rattle.txn_table.proofs.Savepoints.{IsFound, found_savepoint, no_savepoint}
use Rattle.txn_table.proofs.returns.Returns.savepoint.Goals as goal

pub returns-then-eq : goal.returns-then-eq
returns-then-eq c = λ log valid of made still active.
    let t = c.args.txn in
    let entry = c.entry.ensures log.records of
    ∙ ap (λ b. if b then Some (state_of (entry_of log.records t)) else None) still in
    let state = same_Some _ _ (sym c.in-Some.is ∙ entry) in
    let first : c.in-Some.state.first ≡ c.args.at = grind (arith, common_steps) in
    sym (found_savepoint log t c.args.at c.pending_up_to-count.result valid of.linked still active
    (c.pending_up_to-count.ensures log.records of still)
    (inl (sym (ap (λ (s : TxnState). s.first) state) ∙ first)))

pub returns-then-is_update : goal.returns-then-is_update
returns-then-is_update c = λ log valid of made still active.
    let t = c.args.txn in
    sym (found_savepoint log t c.args.at c.pending_up_to-count.result valid of.linked still active
    (c.pending_up_to-count.ensures log.records of still)
    (inr (inl ((c.is_update.ensures log.records of still).0 c.if-is_update.true))))

pub returns-then-is_return : goal.returns-then-is_return
returns-then-is_return c = λ log valid of made still active.
    let t = c.args.txn in
    let rising = still_rising made.gone c.args.self.now.made
    (subst AreRising made.all (returns_rise log valid of.linked)) in
    sym (found_savepoint log t c.args.at c.pending_up_to-count.result valid of.linked still active
    (c.pending_up_to-count.ensures log.records of still)
    (inr (inr (among_all log.records c.args.self.now.made (return_at c.args.at t c.pending_up_to-count.result) made
    ((c.is_return.ensures rising).0 c.if-is_return.true)))))

pub returns : goal.returns
returns c = λ log valid of made still active.
    let t = c.args.txn in
    let count = c.pending_up_to-count.result in
    let entry = c.entry.ensures log.records of
    ∙ ap (λ b. if b then Some (state_of (entry_of log.records t)) else None) still in
    let state = same_Some _ _ (sym c.in-Some.is ∙ entry) in
    let rising = still_rising made.gone c.args.self.now.made
    (subst AreRising made.all (returns_rise log valid of.linked)) in
    sym (no_savepoint log t c.args.at count valid of.linked still active
    (c.pending_up_to-count.ensures log.records of still)
    (none log.records of still made rising state))
  where
    none : (rs : List Record) → IsTableOf rs c.args.table.now.table → is_open rs c.args.txn ≡ true
        → HasReturns rs c.args.self.now.made → AreRising c.args.self.now.made
        → c.in-Some.state ≡ state_of (entry_of rs c.args.txn)
        → IsFound rs c.args.txn c.pending_up_to-count.result c.args.at → ⊥
    none rs of still made rising state (inl first) =
        let same : c.in-Some.state.first ≡ c.args.at = ap (λ (s : TxnState). s.first) state ∙ first in
        grind (arith, common_steps)
    none rs of still made rising state (inr (inl update)) =
        let is = (c.is_update.ensures rs of still).1 update in grind (arith, common_steps)
    none rs of still made rising state (inr (inr there)) =
        let is = (c.is_return.ensures rising).1
        (among_kept rs c.args.self.now.made (return_at c.args.at c.args.txn c.pending_up_to-count.result) made still
        there) in
        grind (arith, common_steps)
