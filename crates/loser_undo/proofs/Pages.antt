-- The pages of a log after undo.
use Rattle.std.proofs.Common.{◌≡◌, ℕ, ◌+◌, ◌<◌, ◌≤◌, ◌++◌, ◌∷◌, [], Bool, true, false, cond, List, get_or, length, map, refl, sym, ap, ◌∙◌, arith}
use Rattle.std.specs.List.{fold}
use Rattle.std.specs.Prelude.{slice_index}
use Rattle.std.proofs.lemmas.List.{length-map, take-append-drop}
use Rattle.page_core.specs.declared.page.Page.{Page}
use Rattle.log_records.specs.declared.record.Record.{Record}
use Rattle.log_store.specs.declared.master.Master.{Master}
use Rattle.log_records.specs.Image.{image_from, redo_all}
use Rattle.log_records.specs.Log.{IsLog, Log}
use Rattle.log_records.proofs.Public.{length-redo_all, numbered-images, redo_all-append}
use Rattle.log_records.specs.declared.limits.TheConstants.{MAX_RECORDS}
use Rattle.log_rules.specs.Linked.{IsLinked}
use Rattle.log_rules.proofs.Public.{number_of_volume}
use Rattle.log_rules.specs.Transactions.{owed}
use Rattle.loser_undo.specs.Recovery.{HasCommitted, IsRecovery, IsUndone, HasLogsPages, Recovery, appended, undone}
use Rattle.loser_undo.specs.Undo.{LostChange, after_undo, comp_of, end_of, is_undone, lost_changes, spent, taken_back, with_comp, with_end}
use Rattle.loser_undo.proofs.Valid.{log_comes_first, undo_closes, undo_is_linked, undone_fits, undone_number}
use Rattle.log_records.proofs.Public.{count_behind-push}
use Rattle.log_records.specs.PageCount.{count_behind}
use Rattle.log_records.specs.Log.{page_count}

-- the log, and then what undo appends
pub log_and_appended : (log : Log) → log.records ++ appended log ≡ after_undo log.records
log_and_appended log =
    ap (λ xs. xs ++ appended log) (sym (log_comes_first log.records))
    ∙ take-append-drop (length log.records) (after_undo log.records)

-- ---- undo leaves the page count as it is: it appends no Extend

count_taken_back : (pages : ℕ) (rs : List Record) (l : LostChange)
    → count_behind pages (taken_back rs l) ≡ count_behind pages rs
unfolding taken_back
count_taken_back pages rs l = by (is_undone (with_comp rs l) l.txn)
  where
    after : count_behind pages (with_comp rs l) ≡ count_behind pages rs
    after = count_behind-push pages rs (comp_of rs l)

    by : (b : Bool) → count_behind pages (cond b (with_end (with_comp rs l) l.txn) (with_comp rs l)) ≡ count_behind pages rs
    by true = count_behind-push pages (with_comp rs l) (end_of (with_comp rs l) l.txn) ∙ after
    by false = after

count_fold : {X : Type 0} (pages : ℕ) (f : List Record → X → List Record)
    → ((rs : List Record) (x : X) → count_behind pages (f rs x) ≡ count_behind pages rs) → (rs : List Record) (xs : List X)
    → count_behind pages (fold f rs xs) ≡ count_behind pages rs
count_fold pages f same rs [] = refl
count_fold pages f same rs (x ∷ xs) = count_fold pages f same (f rs x) xs ∙ same rs x

pub undone_count : (log : Log) → page_count log ≡ page_count (record log { records = after_undo log.records })
unfolding after_undo
undone_count log =
    let ended = fold with_end log.records (spent log.records) in
    sym (count_fold log.pages taken_back (count_taken_back log.pages) ended (lost_changes log.records)
    ∙ count_fold log.pages with_end (λ rs t. count_behind-push log.pages rs (end_of rs t)) log.records (spent log.records))

pub undone_whole : (r : Recovery) → HasLogsPages r → HasLogsPages (undone r)
undone_whole r whole =
    ap (map (λ page. image_from page (appended r.log))) whole
    ∙ redo_all-append r.log.records (appended r.log) (page_count r.log)
    ∙ ap (λ xs. redo_all xs (page_count r.log)) (log_and_appended r.log)
    ∙ ap (redo_all (after_undo r.log.records)) (undone_count r.log)

pub undone_committed : (r : Recovery) → IsLog r.log → IsLinked r.log.records → HasLogsPages r
    → HasCommitted r.log.records (undone r).pages
undone_committed r valid linked whole page slot d below within =
    let rs = after_undo r.log.records in
    let is = undone_whole r whole in
    let n = page_count (undone r).log in
    let inside : page < n = omega (arith, ap length is, length-redo_all rs n) in
    ap (λ (pages : List Page). slice_index (get_or pages page d).slots slot) is
    ∙ number_of_volume rs n page slot d inside
    ∙ undone_number r.log page slot valid linked within

-- part by part
pub same_parts : (r : Recovery) (count : ℕ) (rs : List Record) (master : Master) (pages : List Page)
    → count ≡ r.log.pages → rs ≡ r.log.records → master ≡ r.master → pages ≡ r.pages
    → (let it : Recovery = record {
      log = record { pages = count; records = rs };
      master = master;
      pages = pages;
    } in it) ≡ r
same_parts r count rs master pages counts records masters all = λ i. record {
  log = record { pages = counts i; records = records i };
  master = masters i;
  pages = all i;
}

-- no transaction is open any more
pub undone_closed : (r : Recovery) → IsRecovery r
    → length r.log.records + owed r.log.records ≤ MAX_RECORDS → IsUndone (undone r)
undone_closed r is room = record {
  is = record {
    valid = undone_fits r.log is.valid is.linked room;
    linked = undo_is_linked r.log is.valid is.linked;
    count = length-map r.pages (λ page. image_from page (appended r.log)) ∙ is.count ∙ undone_count r.log;
    numbered = numbered-images r.pages (appended r.log) is.numbered;
  };
  closed = undo_closes r.log is.valid is.linked;
}
