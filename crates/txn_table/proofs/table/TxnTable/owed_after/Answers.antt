-- What is owed after the next record.
use Rattle.std.proofs.Common.{ℕ, ◌≡◌, ◌∙◌, ◌++◌, [], ◌∷◌, arith, refl, sym}
use Rattle.log_records.specs.declared.record.Record.{Record}
use Rattle.log_records.specs.declared.record.Record.TheVariants.{Begin, Update, Comp, Commit, Abort, End}
use Rattle.log_rules.specs.Transactions.{owed}
use Rattle.txn_table.proofs.Owed.{OwedStep, table_step}
use Rattle.txn_table.proofs.Viewed.{table_is}
use Rattle.txn_table.proofs.table.TxnTable.owed_after.Goals as goal

pub overflow_add-result : goal.overflow_add-result
overflow_add-result c =
    let s =
    table_step c.self.inside.open.table c.args.self.now.table c.self.inside.owed c.requires.0 c.args.next.now _
    (table_is c.self.view_is) c.self.invariant c.requires.1.0 c.requires.1.1 c.in-Begin.is in
    let before = s.before in
    let few = s.few in
    let step = s.step in
    omega arith

pub overflow_add-result-in-Update : goal.overflow_add-result-in-Update
overflow_add-result-in-Update c =
    let s =
    table_step c.self.inside.open.table c.args.self.now.table c.self.inside.owed c.requires.0 c.args.next.now _
    (table_is c.self.view_is) c.self.invariant c.requires.1.0 c.requires.1.1 c.in-Update.is in
    let before = s.before in
    let few = s.few in
    let step = s.step in
    omega arith

pub overflow_sub-result : goal.overflow_sub-result
overflow_sub-result c =
    let s =
    table_step c.self.inside.open.table c.args.self.now.table c.self.inside.owed c.requires.0 c.args.next.now _
    (table_is c.self.view_is) c.self.invariant c.requires.1.0 c.requires.1.1 c.in-Comp.is in
    let before = s.before in
    let few = s.few in
    let step = s.step in
    omega arith

pub overflow_sub-result-in-Abort : goal.overflow_sub-result-in-Abort
overflow_sub-result-in-Abort c =
    let s =
    table_step c.self.inside.open.table c.args.self.now.table c.self.inside.owed c.requires.0 c.args.next.now _
    (table_is c.self.view_is) c.self.invariant c.requires.1.0 c.requires.1.1 c.in-Abort.is in
    let before = s.before in
    let few = s.few in
    let step = s.step in
    omega arith

pub overflow_sub-result-in-Commit : goal.overflow_sub-result-in-Commit
overflow_sub-result-in-Commit c =
    let s =
    table_step c.self.inside.open.table c.args.self.now.table c.self.inside.owed c.requires.0 c.args.next.now _
    (table_is c.self.view_is) c.self.invariant c.requires.1.0 c.requires.1.1 c.in-Commit.is in
    let before = s.before in
    let few = s.few in
    let step = s.step in
    let less = step.1 in
    let found = c.owed_by.ensures c.requires.0 c.requires.1.0 step.0 (omega arith) in
    omega arith

pub overflow_sub-result-in-End : goal.overflow_sub-result-in-End
overflow_sub-result-in-End c =
    let s =
    table_step c.self.inside.open.table c.args.self.now.table c.self.inside.owed c.requires.0 c.args.next.now _
    (table_is c.self.view_is) c.self.invariant c.requires.1.0 c.requires.1.1 c.in-End.is in
    let before = s.before in
    let few = s.few in
    let step = s.step in
    let less = step.1 in
    let found = c.owed_by-in-End.ensures c.requires.0 c.requires.1.0 step.0 (omega arith) in
    omega arith

pub returns-in-Begin : goal.returns-in-Begin
returns-in-Begin c rs of may =
    let s =
    table_step c.self.inside.open.table c.args.self.now.table c.self.inside.owed rs c.args.next.now _
    (table_is c.self.view_is) c.self.invariant of may c.in-Begin.is in
    let before = s.before in
    let few = s.few in
    let step = s.step in
    omega arith

pub returns-in-Update : goal.returns-in-Update
returns-in-Update c rs of may =
    let s =
    table_step c.self.inside.open.table c.args.self.now.table c.self.inside.owed rs c.args.next.now _
    (table_is c.self.view_is) c.self.invariant of may c.in-Update.is in
    let before = s.before in
    let few = s.few in
    let step = s.step in
    omega arith

pub returns-in-Comp : goal.returns-in-Comp
returns-in-Comp c rs of may =
    let s =
    table_step c.self.inside.open.table c.args.self.now.table c.self.inside.owed rs c.args.next.now _
    (table_is c.self.view_is) c.self.invariant of may c.in-Comp.is in
    let before = s.before in
    let few = s.few in
    let step = s.step in
    omega arith

pub returns-in-Abort : goal.returns-in-Abort
returns-in-Abort c rs of may =
    let s =
    table_step c.self.inside.open.table c.args.self.now.table c.self.inside.owed rs c.args.next.now _
    (table_is c.self.view_is) c.self.invariant of may c.in-Abort.is in
    let before = s.before in
    let few = s.few in
    let step = s.step in
    omega arith

pub returns-in_default : goal.returns-in_default
returns-in_default c rs of may =
    let s =
    table_step c.self.inside.open.table c.args.self.now.table c.self.inside.owed rs c.args.next.now c.args.next.now
    (table_is c.self.view_is) c.self.invariant of may refl in
    s.before ∙ sym (by c.args.next.now refl s.step)
  where
    by : (r : Record) → c.args.next.now ≡ r → OwedStep rs (owed (rs ++ c.args.next.now ∷ [])) r
        → owed (rs ++ c.args.next.now ∷ []) ≡ owed rs
    by (Begin lsn t) is step = absurd (c.in_default.not-Begin lsn t is)
    by (Update lsn t prev page slot change) is step = absurd (c.in_default.not-Update lsn t prev page slot change is)
    by (Comp lsn t prev undo page slot change) is step = absurd (c.in_default.not-Comp lsn t prev undo page slot change is)
    by (Abort lsn t prev) is step = absurd (c.in_default.not-Abort lsn t prev is)
    by (Commit lsn t prev) is step = absurd (c.in_default.not-Commit lsn t prev is)
    by (End lsn t prev) is step = absurd (c.in_default.not-End lsn t prev is)
    by other is step = step

pub returns-in-Commit : goal.returns-in-Commit
returns-in-Commit c rs of may =
    let s =
    table_step c.self.inside.open.table c.args.self.now.table c.self.inside.owed rs c.args.next.now _
    (table_is c.self.view_is) c.self.invariant of may c.in-Commit.is in
    let before = s.before in
    let few = s.few in
    let step = s.step in
    let less = step.1 in
    let found = c.owed_by.ensures rs of step.0 (omega arith) in
    omega arith

pub returns-in-End : goal.returns-in-End
returns-in-End c rs of may =
    let s =
    table_step c.self.inside.open.table c.args.self.now.table c.self.inside.owed rs c.args.next.now _
    (table_is c.self.view_is) c.self.invariant of may c.in-End.is in
    let before = s.before in
    let few = s.few in
    let step = s.step in
    let less = step.1 in
    let found = c.owed_by-in-End.ensures rs of step.0 (omega arith) in
    omega arith
