-- A database that is opened again.
use Rattle.std.proofs.Common.{◌≡◌, ℕ, Bool, List, [], ap, false, length, map, subst, sym, ◌∙◌}
use Rattle.std.specs.Prelude.{IfSome, Option}
use Rattle.std.specs.List.Sorted.{IsNonDecreasing}
use Rattle.std.proofs.lemmas.List.{length-map}
use Rattle.page_core.specs.declared.page.Page.{Page}
use Rattle.page_core.specs.Volume.{AreNumbered}
use Rattle.log_prefix.specs.Front.{IsFrontOf, end_of}
use Rattle.log_prefix.specs.declared.cut.Cut.{Cut}
use Rattle.log_records.specs.Log.{IsLog, IsPageCount, Log, page_count}
use Rattle.log_records.proofs.Public.{length-redo_all, numbered-redo_all}
use Rattle.log_records.proofs.Public.{page_count-is_count}
use Rattle.log_rules.specs.Table.{Table, entry_of}
use Rattle.log_rules.specs.Transactions.{open_in}
use Rattle.log_store.specs.Analysis.{IsAnalysisOf}
use Rattle.log_store.specs.declared.analysis.Analysis.{Analysis}
use Rattle.log_store.specs.declared.master.Master.{Master}
use Rattle.loser_undo.proofs.Public.{undone_count}
use Rattle.manifest.specs.Entries.{Listed}
use Rattle.saved_files.specs.Folder.{Entries}
use Rattle.engine_restart.specs.Lives.{GoesOnFrom}
use Rattle.engine_restart.specs.Restart.{IsRestarted, RestartedView, undone_log}
use Rattle.engine_rules.specs.EngineState.{EngineState}
use Rattle.database_opening.specs.Copies.{TakesUp}
use Rattle.database_files.specs.DatabaseFolder.{HasLogBytes, HasNoOtherVolume}
use Rattle.database_files.specs.Evidence.{LacksNothing}
use Rattle.database_opening.specs.FirstLine.{told_of}
use Rattle.database_files.specs.Found.{AreFoundIn}
use Rattle.database_opening.specs.Opened.{GoesOnFromFile, GoesOnWith}
use Rattle.database_files.specs.declared.closed_note.ClosedNote.{ClosedNote}
use Rattle.database_opening.specs.declared.first_line.FirstLine.{FirstLine}
use Rattle.database_opening.specs.declared.first_line.FirstLine.TheVariants.{Restarted}
use Rattle.database_files.specs.declared.found_copies.CopyFile.{CopyFile}

-- a log counts as many pages once what was open is taken back
pub is_counted : (log now : Log) → IsLog log → now ≡ undone_log log → IsPageCount (page_count now)
is_counted log now valid is =
    let count : page_count now ≡ page_count log = ap page_count is ∙ sym (undone_count log) in
    subst IsPageCount (sym count) (page_count-is_count log valid)

pub are_counted : (it : RestartedView) → IsRestarted it → IsPageCount (page_count it.log)
    → IsPageCount (length it.pages)
are_counted it is counted =
    let long : length it.pages ≡ page_count it.log =
    ap (length {A = Page}) is.pages ∙ length-redo_all it.log.records (page_count it.log) in
    subst IsPageCount (sym long) counted

pub are_numbered : (it : RestartedView) → IsRestarted it → AreNumbered it.pages
are_numbered it is = subst AreNumbered (sym is.pages) (numbered-redo_all it.log.records (page_count it.log))

pub goes_on_with : (log : Log) (at : ℕ) (files : List CopyFile) (begun last : RestartedView) (engine : EngineState)
    → at ≡ end_of log → begun.log ≡ undone_log log → begun.copies ≡ [] → last.log ≡ begun.log → TakesUp at begun files last
    → GoesOnFrom last.log engine → engine.copies ≡ last.copies → GoesOnWith log files engine
goes_on_with log at files begun last engine at_end log_is no_copy same taken goes_on copies = record {
  goes_on = subst (λ (l : Log). GoesOnFrom l engine) (same ∙ log_is) goes_on;
  begun = begun;
  last = last;
  log_is = log_is;
  no_copy = no_copy;
  taken = subst (λ (e : ℕ). TakesUp e begun files last) at_end taken;
  copies = copies;
}

-- what reading a log answered counts its open transactions
pub open_count : (log : Log) (it : Analysis) (count : ℕ) → IsAnalysisOf log it → count ≡ length it.txns.table.entries
    → count ≡ length (open_in log.records)
open_count log it count is counted =
    counted ∙ ap (λ (t : Table). length t.entries) is.txns ∙ length-map (open_in log.records) (entry_of log.records)

pub told_is : (log : Log) (end open_there count : ℕ) (engine : EngineState) (first : FirstLine)
    → first ≡ Restarted end open_there count → end ≡ end_of log → open_there ≡ length (open_in log.records)
    → count ≡ length engine.log → first ≡ told_of log engine
told_is log end open_there count engine first is ends are counted =
    is ∙ ap (λ (n : ℕ). Restarted n open_there count) ends ∙ ap (λ (n : ℕ). Restarted (end_of log) n count) are
    ∙ ap (λ (n : ℕ). Restarted (end_of log) (length (open_in log.records)) n) counted

-- ---- all of it

unfoldable pub goes_on_from : (entries : Option Entries) (is_salvage : Bool) (count : ℕ) (ids : List ℕ)
    (pages : Option ℕ) (frames : ℕ) (first : FirstLine) (engine : EngineState) (bytes : List ℕ) (log now : Log)
    (cut : Option Cut) (closing : Option ClosedNote)
    (manifest : Option Listed) (master : Option Master) (files left : List CopyFile) → HasLogBytes entries bytes
    → length bytes ≡ count → IsFrontOf bytes (record { log = log; cut = cut })
    → IfSome pages (λ told. told ≡ page_count log) → map (λ file. file.id) files ≡ ids → IsNonDecreasing ids
    → AreFoundIn entries closing manifest master files → HasNoOtherVolume entries
    → (is_salvage ≡ false → LacksNothing (end_of log) closing manifest master files bytes) → now ≡ log → left ≡ files
    → GoesOnWith now left engine → engine.frames ≡ frames → first ≡ told_of now engine
    → GoesOnFromFile entries is_salvage count ids pages frames first engine
goes_on_from entries is_salvage count ids pages frames first engine bytes log now cut closing manifest master files left there all front counted weighed rise found volume lacks same same_files goes_on framed told =
    record {
      bytes = bytes;
      there = there;
      all = all;
      log = log;
      cut = cut;
      front = front;
      counted = counted;
      files = files;
      of_ids = weighed;
      rise = rise;
      note = closing;
      manifest = manifest;
      master = master;
      found = found;
      volume = volume;
      lacks = lacks;
      goes_on = subst (λ (fs : List CopyFile). GoesOnWith log fs engine) same_files
          (subst (λ (l : Log). GoesOnWith l left engine) same goes_on);
      framed = framed;
      told = subst (λ (l : Log). first ≡ told_of l engine) same told;
    }
