use Rattle.std.proofs.Common.{◌≡◌, ◌∙◌, sym, subst}
use Rattle.txn_table.specs.OpenEntry.{changes_of}
use Rattle.log_rules.specs.Table.{TxnEntry, entry_of}
use Rattle.log_rules.specs.Transactions.{first_lsn, is_rolling}
use Rattle.loser_undo.specs.Losers.{Leads, LeadsToAbort}
use Rattle.loser_undo.proofs.Traced.{all_traced}
use Rattle.loser_undo.proofs.trace.trace.Goals as goal

pub is_rolling-rolling-requires : goal.is_rolling-rolling-requires
is_rolling-rolling-requires c =
    let log = c.args.log.now in
    let t = c.args.one.txn in
    let traced = all_traced log t c.requires.valid c.requires.linked c.requires.open in (
      traced.comps,
      subst (λ n. LeadsToAbort log.records (is_rolling log.records t) n traced.comps)
          (sym c.requires.last) traced.rolling,
    )

pub pending_of-requires : goal.pending_of-requires
pending_of-requires c =
    let log = c.args.log.now in
    let rs = log.records in
    let t = c.args.one.txn in
    let traced = all_traced log t c.requires.valid c.requires.linked c.requires.open in
    record {
      leads = (
        traced.way,
        (
          subst (λ n. Leads rs t (first_lsn rs t) n traced.way) (sym c.requires.last) traced.leads,
          traced.pending,
        ),
      );
    }

pub returns : goal.returns
returns c =
    let t = c.args.one.txn in
    let made : (let e : TxnEntry = record {
      txn = t;
      first = c.in_ok-first.first;
      last = c.args.one.last;
      rolling = c.is_rolling-rolling.result;
      pending = changes_of c.in_ok-first.pending.items;
    } in e) ≡ entry_of c.args.log.now.records t = λ i. record {
      txn = t;
      first = c.in_ok-first.ensures.first i;
      last = c.requires.last i;
      rolling = c.is_rolling-rolling.ensures i;
      pending = c.in_ok-first.ensures.pending i;
    } in
    c.new.ensures ∙ made
