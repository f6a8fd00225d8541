use Rattle.std.proofs.Common.{◌≡◌, ◌+◌, ◌≤◌, ◌∙◌, ℕ, List, [], ap, arith, length, refl, subst, sym}
use Rattle.page_core.specs.declared.page.Page.{Page}
use Rattle.log_records.specs.Image.{redo_all}
use Rattle.log_records.specs.Log.{IsLog, Log, page_count}
use Rattle.log_records.specs.declared.limits.TheConstants.{MAX_RECORDS}
use Rattle.log_records.specs.declared.record.Record.{Record}
use Rattle.log_records.proofs.Public.{length-redo_all}
use Rattle.log_prefix.specs.Front.{LeadsTo}
use Rattle.log_rules.specs.Table.{TxnEntry, owed_by_entry}
use Rattle.std.specs.List.{sum_by}
use Rattle.std.specs.Prelude.{min}
use Rattle.log_rules.specs.Transactions.{owed}
use Rattle.loser_undo.specs.Losers.{AreLosersOf}
use Rattle.loser_undo.specs.Undo.{after_undo}
use Rattle.loser_undo.specs.UndoSink.{HasRedone, MayBeUndone}
use Rattle.loser_undo.proofs.Public.{owed_few, owed_of, undone_count}
use Rattle.engine_restart.specs.Restart.{undone_log}
use Rattle.engine_restart.proofs.Restarts.{all_committed, all_undone, nothing_undone}
use Rattle.engine_restart.proofs.committed.committed_pages.Goals as goal

module _ (log found : Log) (rs : List Record) (pages : List Page) (losers : List TxnEntry) (same : found ≡ log)
    (valid : IsLog found) (read : rs ≡ found.records) (leads : LeadsTo log pages losers) where
  made : AreLosersOf log.records losers
  made = record {
    linked = leads.linked;
    few = (subst IsLog same valid).count;
    made = leads.still_open;
  }

  many : length rs ≡ length log.records
  many = ap (length {A = Record}) read ∙ ap (λ (l : Log). length l.records) same

  -- undo may begin, with the pages that the log makes
  begins : (most : ℕ) → most ≡ min (sum_by owed_by_entry losers) 18446744073709551615 → length rs + most ≤ MAX_RECORDS
      → MayBeUndone log losers (length rs) × HasRedone log pages [] pages
  begins most is room =
      let is_owed : most ≡ owed log.records =
      omega (arith, made.few, owed_few log.records leads.linked, is, owed_of log.records losers made) in (
        record {
          valid = subst IsLog same valid;
          made = made;
          count_is = many;
          room = omega (arith, room, is_owed, many);
        },
        nothing_undone log pages leads.redone,
      )

pub overflow_add-count : goal.overflow_add-count
overflow_add-count c =
    let front = c.args.front.log in
    let found = c.into_replayed-log in
    let read = c.records-count.ensures in
    let it = made front found.result.0 c.records-count.result.now found.result.1.items found.result.2 found.ensures.log
    read.valid read.records found.ensures.leads in
    let count = many front found.result.0 c.records-count.result.now found.result.1.items found.result.2
    found.ensures.log read.valid read.records found.ensures.leads in
    let most = owed_few front.records found.ensures.leads.linked in
    omega (arith, it.few, count, most, c.owed.ensures, owed_of front.records found.result.2 it)

pub returns-then-count-owed-clause-full : goal.returns-then-count-owed-clause-full
returns-then-count-owed-clause-full c =
    let front = c.args.front.log in
    let found = c.into_replayed-log in
    let read = c.records-count.ensures in
    let it = made front found.result.0 c.records-count.result.now found.result.1.items found.result.2 found.ensures.log
    read.valid read.records found.ensures.leads in
    let count = many front found.result.0 c.records-count.result.now found.result.1.items found.result.2
    found.ensures.log read.valid read.records found.ensures.leads in
    let most = owed_few front.records found.ensures.leads.linked in
    let is : c.owed.result ≡ owed front.records =
    omega (arith, it.few, most, c.owed.ensures, owed_of front.records found.result.2 it) in
    (refl, omega (arith, count, is, c.if-count-owed.true))

pub undo_into-requires : goal.undo_into-requires
undo_into-requires c =
    let leads = c.into_replayed-log in
    let read = c.records-count in (
      c.args.front.log,
      begins c.args.front.log leads.result.0 read.result.now leads.result.1.items leads.result.2 leads.ensures.log
          read.ensures.valid read.ensures.records leads.ensures.leads c.owed.result c.owed.ensures c.if-count-owed.false,
    )

-- undo gives back the pages of the log after undo
all_redone : (c : goal.After-drop-log-inside-2) → c.undo_into.new.sink.items
    ≡ redo_all (after_undo c.args.front.log.records) (page_count (undone_log c.args.front.log))
all_redone c =
    let leads = c.into_replayed-log in
    let read = c.records-count in
    let may = begins c.args.front.log leads.result.0 read.result.now leads.result.1.items leads.result.2
    leads.ensures.log read.ensures.valid read.ensures.records leads.ensures.leads c.owed.result c.owed.ensures
    c.if-count-owed.false in
    all_undone c.args.front.log leads.result.1.items c.undo_into.new.sink.items leads.ensures.leads.redone
    (c.undo_into.ensures c.args.front.log may.0 may.1).made

pub returns-clause-committed : goal.returns-clause-committed
returns-clause-committed c =
    all_committed c.args.front.log c.undo_into.new.sink.items
    (subst IsLog c.into_replayed-log.ensures.log c.records-count.ensures.valid)
    c.into_replayed-log.ensures.leads.linked (all_redone c)

pub returns-clause-counted : goal.returns-clause-counted
returns-clause-counted c =
    ap (length {A = Page}) (all_redone c)
    ∙ length-redo_all (after_undo c.args.front.log.records) (page_count (undone_log c.args.front.log))
    ∙ sym (undone_count c.args.front.log)
