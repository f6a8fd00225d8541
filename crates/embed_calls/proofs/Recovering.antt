-- What a log after undo has, and where it goes.
use Rattle.std.proofs.Common.{◌≡◌, ◌∙◌, ℕ, ◌*◌, ◌<◌, ◌≤◌, List, length, drop, ap, arith, subst, sym}
use Rattle.std.specs.Prelude.{◌⊎◌}
use Rattle.std.proofs.lemmas.List.{length-append, length-drop}
use Rattle.page_core.specs.declared.page.Page.{Page}
use Rattle.log_records.specs.declared.record.Record.{Record}
use Rattle.log_records.specs.Log.{Log, page_count}
use Rattle.log_records.proofs.Public.{length-redo_all, page_count-is_count}
use Rattle.loser_undo.specs.Recovery.{appended}
use Rattle.loser_undo.specs.Undo.{after_undo}
use Rattle.loser_undo.proofs.Public.{log_and_appended, undone_fits}
use Rattle.embed_calls.specs.declared.outcome.Outcome.{Outcome}
use Rattle.embed_calls.specs.Outcome.{answers, numbered_twice}
use Rattle.embed_calls.specs.Recovered.{AreRecovered, IsPut, IsRecovered, IsUndoneLog, NeedsRoom}

-- with its records and its pages as another list has them
pub moved : (bytes : List ℕ) (log : Log) (records items : List Record) (count : ℕ) (pages ps : List Page)
    → IsUndoneLog bytes log records count pages → items ≡ records → ps ≡ pages → IsUndoneLog bytes log items count ps
moved bytes log records items count pages ps is same_items same_pages = record {
  of_log = is.of_log;
  room = is.room;
  records_are = same_items ∙ is.records_are;
  count_is = is.count_is;
  recovered = subst (AreRecovered log) (sym same_pages) is.recovered;
}

module _ (bytes : List ℕ) (log : Log) (records : List Record) (count : ℕ) (pages : List Page)
    (is : IsUndoneLog bytes log records count pages) where
  pub starts : count ≤ length records
  starts =
      let whole = ap (length {A = Record}) (log_and_appended log) in
      let long = ap (length {A = Record}) is.records_are in
      omega (arith, whole, long, length-append log.records (appended log), is.count_is)

  pub of_undo : drop count records ≡ appended log
  of_undo =
      ap (λ (n : ℕ). drop n records) is.count_is ∙ ap (λ (rs : List Record). drop (length log.records) rs) is.records_are

  pub few_records : (rs : List Record) → rs ≡ drop count records → length rs ≤ 1048576
  few_records rs same =
      let valid = undone_fits log is.of_log.spells.valid is.of_log.linked is.room in
      let most = valid.count in
      let long = ap (length {A = Record}) is.records_are in
      let tail = ap (length {A = Record}) same in
      omega (arith, most, long, tail, length-drop count records)

  pub long_pages : length pages ≡ page_count log
  long_pages =
      ap (λ (ps : List Page). length ps) is.recovered.whole
      ∙ length-redo_all (after_undo log.records) (page_count log)

  pub few_pages : length pages ≤ 65536
  few_pages =
      let most = (page_count-is_count log is.of_log.spells.valid).most in
      omega (arith, long_pages, most)

  pub recovered : (volume made tail undo : List ℕ) (it : Outcome) (rs : List Record) → rs ≡ drop count records
      → IsPut pages rs volume made tail undo → it ≡ answers (512 * length pages) (64 * length rs) 0
      → IsRecovered bytes volume made tail undo it
  recovered volume made tail undo it rs same put told =
      let is_tail : rs ≡ appended log = same ∙ of_undo in
      record {
        log = log;
        of_log = is.of_log;
        room = is.room;
        pages = pages;
        recovered = is.recovered;
        put = subst (λ (xs : List Record). IsPut pages xs volume made tail undo) is_tail put;
        counts = told ∙ ap (λ (n : ℕ). answers (512 * n) (64 * length rs) 0) long_pages
            ∙ ap (λ (xs : List Record). answers (512 * page_count log) (64 * length xs) 0) is_tail;
      }

  pub needs : (volume tail : ℕ) (it : Outcome) (rs : List Record) → rs ≡ drop count records
      → it ≡ numbered_twice 1000 (512 * length pages) (64 * length rs)
      → (volume < 512 * length pages) ⊎ (tail < 64 * length rs) → NeedsRoom bytes volume tail it
  needs volume tail it rs same told short =
      let is_tail : rs ≡ appended log = same ∙ of_undo in
      record {
        log = log;
        of_log = is.of_log;
        needs = told ∙ ap (λ (n : ℕ). numbered_twice 1000 (512 * n) (64 * length rs)) long_pages
            ∙ ap (λ (xs : List Record). numbered_twice 1000 (512 * page_count log) (64 * length xs)) is_tail;
        short = subst (λ (n : ℕ). (volume < 512 * n) ⊎ (tail < 64 * length (appended log))) long_pages
            (subst (λ (xs : List Record). (volume < 512 * length pages) ⊎ (tail < 64 * length xs)) is_tail short);
      }
