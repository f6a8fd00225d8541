-- The pages after undo, and what a restart leaves where no copy is at hand.
use Rattle.std.proofs.Common.{ℕ, zero, suc, ◌≡◌, ◌<◌, List, [], get_or, length, map, refl, ap, subst, sym, ◌∙◌, arith, lit≤}
use Rattle.std.specs.Prelude.{slice_index}
use Rattle.page_core.specs.declared.page.Page.{Page}
use Rattle.log_records.specs.declared.record.Record.{Record}
use Rattle.log_records.specs.Image.{AreNumbered, image_from, redo_all}
use Rattle.log_records.specs.Log.{IsLog, Log, lsn_of, page_count}
use Rattle.log_records.proofs.Public.{length-redo_all, numbered-redo_all, redo_all-append}
use Rattle.log_rules.specs.Linked.{IsLinked}
use Rattle.log_rules.proofs.Public.{number_of_volume}
use Rattle.loser_undo.specs.Recovery.{HasCommitted, appended}
use Rattle.loser_undo.specs.Undo.{after_undo}
use Rattle.loser_undo.specs.UndoSink.{HasRedone}
use Rattle.loser_undo.proofs.Public.{log_and_appended, nothing_redone, undo_closes, undo_is_linked}
use Rattle.loser_undo.proofs.Public.{undone_count, undone_number}
use Rattle.copy_vault.specs.Copy.{CopyView}
use Rattle.copy_vault.specs.Vault.{CopyState, complete, dropped, reading, state_of}
use Rattle.copy_coverage.specs.Copied.{AreRestorable}
use Rattle.engine_restart.specs.Restart.{IsRestarted, undone_log}

-- ---- the pages of a log, and what undo makes of them

pub nothing_undone : (log : Log) (pages : List Page) → pages ≡ redo_all log.records (page_count log)
    → HasRedone log pages [] pages
nothing_undone log pages is =
    let rs = log.records in
    let n = page_count log in
    nothing_redone log pages (ap (length {A = Page}) is ∙ length-redo_all rs n)
    (subst AreNumbered (sym is) (numbered-redo_all rs n))

pub all_undone : (log : Log) (pages new : List Page) → pages ≡ redo_all log.records (page_count log)
    → new ≡ map (λ page. image_from page (appended log)) pages
    → new ≡ redo_all (after_undo log.records) (page_count (undone_log log))
all_undone log pages new is made =
    made
    ∙ ap (map (λ page. image_from page (appended log))) is
    ∙ redo_all-append log.records (appended log) (page_count log)
    ∙ ap (λ (rs : List Record). redo_all rs (page_count log)) (log_and_appended log)
    ∙ ap (redo_all (after_undo log.records)) (undone_count log)

-- each slot has its committed number
pub all_committed : (log : Log) (pages : List Page) → IsLog log → IsLinked log.records
    → pages ≡ redo_all (after_undo log.records) (page_count (undone_log log)) → HasCommitted log.records pages
all_committed log pages valid linked is page slot d below within =
    let rs = after_undo log.records in
    let n = page_count (undone_log log) in
    let inside : page < n = omega (arith, below, ap (length {A = Page}) is, length-redo_all rs n) in
    ap (λ (ps : List Page). slice_index (get_or ps page d).slots slot) is
    ∙ number_of_volume rs n page slot d inside
    ∙ undone_number log page slot valid linked within

-- ---- no copy is at hand

no_copy : (id : ℕ) → state_of [] id ≡ dropped
no_copy zero = refl
no_copy (suc k) = refl

not_reading : (copy : CopyView) → ¬ (dropped ≡ reading copy)
not_reading copy e = cc

not_complete : (copy : CopyView) → ¬ (dropped ≡ complete copy)
not_complete copy e = cc

none_restorable : (log : Log) (end : ℕ) → AreRestorable log end []
none_restorable log end = record {
  few = lit≤ tt;
  each = λ id copy is. absurd (not_complete copy (sym (no_copy id) ∙ is));
  decided = λ id copy is. absurd (not_complete copy (sym (no_copy id) ∙ is));
  covered = λ id copy older is. absurd (not_complete copy (sym (no_copy id) ∙ is));
}

pub restarted_alone : (log now : Log) (pages : List Page) (copies : List CopyState) → IsLog log
    → IsLinked log.records → now ≡ undone_log log → pages ≡ redo_all now.records (page_count now) → copies ≡ []
    → IsRestarted (record { log = now; pages = pages; copies = copies })
restarted_alone log now pages copies valid linked is made none = rw (is, none) (record {
  may = record {
    linked = undo_is_linked log valid linked;
    closed = undo_closes log valid linked;
    restorable = none_restorable (undone_log log) (lsn_of (length (after_undo log.records)));
    none_read = λ id copy reads. absurd (not_reading copy (sym (no_copy id) ∙ reads));
    noted = λ id copy is. absurd (not_complete copy (sym (no_copy id) ∙ is));
  };
  pages = made_of;
})
  where
    made_of : pages ≡ redo_all (after_undo log.records) (page_count (undone_log log))
    made_of = made ∙ ap (λ (l : Log). redo_all l.records (page_count l)) is
