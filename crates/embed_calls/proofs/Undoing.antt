-- Undo of a log whose pages are those that it makes.
use Rattle.std.proofs.Common.{◌≡◌, ◌∙◌, ℕ, ◌+◌, ◌≤◌, List, [], append-nil, length, map, min, ap, arith, subst, sym}
use Rattle.std.specs.List.{sum_by}
use Rattle.page_core.specs.declared.page.Page.{Page}
use Rattle.page_core.specs.Volume.{AreNumbered}
use Rattle.log_records.specs.declared.record.Record.{Record}
use Rattle.log_records.specs.Image.{image_from, redo_all}
use Rattle.log_records.specs.Log.{Log, page_count}
use Rattle.log_records.proofs.Public.{length-redo_all, numbered-redo_all}
use Rattle.log_rules.specs.Table.{TxnEntry, owed_by_entry}
use Rattle.log_store.specs.declared.master.Master.{Master}
use Rattle.loser_undo.specs.Losers.{AreLosersOf, losers_of}
use Rattle.loser_undo.specs.Recovery.{HasCommitted, Recovery, appended}
use Rattle.loser_undo.specs.Undo.{after_undo}
use Rattle.loser_undo.specs.UndoSink.{HasAppended, HasRedone, MayBeUndone}
use Rattle.loser_undo.proofs.Public.{nothing_redone, owed_few, owed_of}
use Rattle.loser_undo.proofs.Public.{undone_committed, undone_count, undone_whole}
use Rattle.embed_calls.specs.Calls.{IsLogOf}
use Rattle.embed_calls.specs.Recovered.{AreRecovered, MayUndo, most_records}

-- how many records the log has with those that undo may append, as they are counted
pub record IsTotal (log : Log) (sum : ℕ) : Type 0 where
  pub few : length log.records + sum ≤ 3145728
  pub is : length log.records + sum ≡ most_records log

are_losers : (bytes : List ℕ) (log : Log) (losers : List TxnEntry) → IsLogOf bytes log
    → losers ≡ losers_of log.records → AreLosersOf log.records losers
are_losers bytes log losers right same =
    record { linked = right.linked; few = right.spells.valid.count; made = same }

pub total : (bytes : List ℕ) (log : Log) (losers : List TxnEntry) (sum : ℕ) → IsLogOf bytes log
    → losers ≡ losers_of log.records → sum ≡ min (sum_by owed_by_entry losers) 18446744073709551615 → IsTotal log sum
total bytes log losers sum right same summed =
    let all = owed_of log.records losers (are_losers bytes log losers right same) in
    let few = owed_few log.records right.linked in
    let most = right.spells.valid.count in
    record {
      few = omega (arith, all, few, most, summed);
      is = omega (arith, all, few, most, summed);
    }

module _ (bytes : List ℕ) (log : Log) (losers : List TxnEntry) (pages : List Page)
    (may : MayUndo bytes log losers pages) where
  pub may_be_undone : (count : ℕ) → count ≡ length log.records → MayBeUndone log losers count
  may_be_undone count same = record {
    valid = may.of_log.spells.valid;
    made = are_losers bytes log losers may.of_log may.still_open;
    count_is = same;
    room = may.room;
  }

  -- the records of the log stand in memory with room for as many as undo owes
  pub has_room : (records : List Record) (long capacity sum : ℕ) → records ≡ log.records → long ≡ length records
      → sum ≡ min (sum_by owed_by_entry losers) 18446744073709551615 → long + sum ≤ capacity
      → HasAppended log [] records capacity
  has_room records long capacity sum same counted summed all =
      let is = (total bytes log losers sum may.of_log may.still_open summed).is in
      let alike = ap (length {A = Record}) same in
      record { made = same ∙ sym (append-nil log.records); fits = omega (arith, is, alike, all, counted) }

  pub on_pages : HasRedone log pages [] pages
  on_pages =
      nothing_redone log pages (ap (λ (ps : List Page). length ps) may.made ∙ length-redo_all log.records (page_count log))
      (subst AreNumbered (sym may.made) (numbered-redo_all log.records (page_count log)))

  pub recovered_of : (it : List Page) → it ≡ map (λ page. image_from page (appended log)) pages → AreRecovered log it
  recovered_of it made =
      let none : Master = record { begin = 0; end = 0 } in
      let r : Recovery = record { log = log; master = none; pages = pages } in
      record {
        whole = made ∙ undone_whole r may.made ∙ ap (redo_all (after_undo log.records)) (sym (undone_count log));
        committed = subst (HasCommitted log.records) (sym made)
            (undone_committed r may.of_log.spells.valid may.of_log.linked may.made);
      }
