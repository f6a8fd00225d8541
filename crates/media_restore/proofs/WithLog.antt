-- The log that is written with a restored volume.
use Rattle.std.proofs.Common.{◌≡◌, ◌∙◌, ℕ, ◌+◌, ◌≤◌, List, [], append-nil, arith, length, map, min}
use Rattle.std.proofs.Common.{refl, sym, ap, subst}
use Rattle.std.specs.List.{sum_by}
use Rattle.std.specs.Prelude.{Option}
use Rattle.std.proofs.KnownBytes.{Keeps-refl}
use Rattle.page_core.specs.declared.page.Page.{Page}
use Rattle.page_core.specs.declared.format.Format.TheVariants.{Second}
use Rattle.log_records.specs.declared.record.Record.{Record}
use Rattle.log_records.specs.Image.{image_from, redo_all}
use Rattle.log_records.specs.Log.{IsLog, Log, SpellsLog, log_bytes, page_count}
use Rattle.log_rules.specs.Checkpoint.{IsCompleteCheckpoint}
use Rattle.log_rules.specs.Linked.{IsLinked}
use Rattle.log_rules.specs.Table.{TxnEntry, owed_by_entry}
use Rattle.log_rules.specs.Transactions.{open_in}
use Rattle.log_rules.proofs.Public.{complete_later}
use Rattle.loser_undo.specs.Recovery.{appended}
use Rattle.loser_undo.specs.Undo.{after_undo}
use Rattle.loser_undo.specs.UndoSink.{HasAppended}
use Rattle.loser_undo.proofs.Public.{log_and_appended, owed_of, undone_count}
use Rattle.loser_undo.proofs.Public.{undo_closes, undo_is_linked, undone_fits}
use Rattle.media_restore.specs.declared.files_fault.RestoreFault.{RestoreFault}
use Rattle.media_restore.specs.declared.files_fault.RestoreFault.TheVariants.{OutOfMemory, LogFull, WriteFault}
use Rattle.media_restore.specs.declared.files_fault.RestoreFault.TheVariants.{BadHeader, BadRecord, Torn, ReadFault}
use Rattle.media_restore.specs.declared.files_fault.RestoreFault.TheVariants.{TooLong, BadChain, BadArchive}
use Rattle.media_restore.specs.declared.files_fault.RestoreFault.TheVariants.{ChainBroken}
use Rattle.media_restore.specs.declared.files_fault.RestoreFault.TheVariants.{CountDiffers}
use Rattle.media_restore.specs.declared.files_fault.RestoreFault.TheVariants.{RedoBeyondLog, PageBeyondLog}
use Rattle.media_restore.specs.Files.{Files, IsRedoneFrom, Refused}
use Rattle.media_restore.specs.FilesLog.{IsRestoredWithLog, LeavesVolume, log_after_undo}
use Rattle.media_restore.proofs.Restored.{no_write, restored_of}

-- a log that may be written has a spelling in the second format
pub spelled_log : (log : Log) → IsLog log → SpellsLog log (log_bytes log)
spelled_log log valid = record {
  valid = valid;
  format = Second;
  of_format = λ i d lt. tt;
  spelled = refl;
}

-- the records of the log, in memory with room for as many as undo owes
pub has_room : (files : Files) (log : Log) (losers : List TxnEntry) (count : ℕ) (pages : List Page)
    → IsRedoneFrom files log losers count pages → (records : List Record) (long capacity sum : ℕ) → records ≡ log.records
    → long ≡ length records → sum ≡ min (sum_by owed_by_entry losers) 18446744073709551615 → long + sum ≤ capacity
    → HasAppended log [] records capacity
has_room files log losers count pages from records long capacity sum same counted summed all =
    let may = from.to_undo in
    record {
      made = same ∙ sym (append-nil log.records);
      fits = omega (
        arith,
        all,
        counted,
        ap (length {A = Record}) same,
        summed,
        may.room,
        owed_of log.records losers may.made,
      );
    }

-- the log that a sink kept is that of the files
pub kept_log : (files : Files) (kept log : Log) (losers : List TxnEntry) (count : ℕ) (pages : List Page) → kept ≡ log
    → IsRedoneFrom files log losers count pages → IsRedoneFrom files kept losers count pages
kept_log files kept log losers count pages same from =
    subst (λ (l : Log). IsRedoneFrom files l losers count pages) (sym same) from

-- ---- what is answered

-- what undo leaves belongs together
pub with_log : (files : Files) (log : Log) (losers : List TxnEntry) (count : ℕ) (pages it : List Page) (after : Log)
    → IsRedoneFrom files log losers count pages → it ≡ map (λ page. image_from page (appended log)) pages
    → after ≡ log_after_undo log → IsRestoredWithLog files it after
unfolding restored_of
with_log files log losers count pages it after from made undone =
    let rs = log.records in
    let ended = log_after_undo log in
    let of_log = from.parts.of_log in
    let master = from.master in
    let valid : IsLog ended = undone_fits log of_log.valid of_log.linked from.to_undo.room in
    let restored = restored_of files log losers count pages it from made in
    record {
      from = restored;
      undone = undone;
      spelled = subst (λ (l : Log). SpellsLog l (log_bytes l)) (sym undone) (spelled_log ended valid);
      linked = subst (λ (l : Log). IsLinked l.records) (sym undone) (undo_is_linked log of_log.valid of_log.linked);
      closed = ap (λ (l : Log). open_in l.records) undone ∙ undo_closes log of_log.valid of_log.linked;
      complete = subst (λ (l : Log). IsCompleteCheckpoint l.records master.begin master.end) (sym undone)
          (subst (λ (xs : List Record). IsCompleteCheckpoint xs master.begin master.end) (log_and_appended log)
          (complete_later rs (appended log) master.begin master.end from.parts.of_master.complete));
      redone = λ covers. (restored.sound covers).whole ∙ ap (redo_all (after_undo rs)) (undone_count log)
          ∙ ap (λ (l : Log). redo_all l.records (page_count l)) (sym undone);
    }

-- ---- where the files are refused, nothing is written

pub leaves_both : (files : Files) (old log_old : Option (List ℕ)) (fault : RestoreFault) → Refused files fault
    → LeavesVolume files old old log_old log_old fault
leaves_both files old log_old OutOfMemory refused = (Keeps-refl old, (Keeps-refl log_old, refused))
leaves_both files old log_old LogFull refused = (Keeps-refl old, (Keeps-refl log_old, refused))
leaves_both files old log_old (WriteFault done) refused = absurd (no_write files done refused)
leaves_both files old log_old BadHeader refused = (Keeps-refl old, (Keeps-refl log_old, refused))
leaves_both files old log_old (BadRecord at) refused = (Keeps-refl old, (Keeps-refl log_old, refused))
leaves_both files old log_old (Torn at) refused = (Keeps-refl old, (Keeps-refl log_old, refused))
leaves_both files old log_old ReadFault refused = (Keeps-refl old, (Keeps-refl log_old, refused))
leaves_both files old log_old TooLong refused = (Keeps-refl old, (Keeps-refl log_old, refused))
leaves_both files old log_old (BadChain at) refused = (Keeps-refl old, (Keeps-refl log_old, refused))
leaves_both files old log_old (BadArchive at) refused = (Keeps-refl old, (Keeps-refl log_old, refused))
leaves_both files old log_old (ChainBroken copy) refused = (Keeps-refl old, (Keeps-refl log_old, refused))
leaves_both files old log_old CountDiffers refused = (Keeps-refl old, (Keeps-refl log_old, refused))
leaves_both files old log_old RedoBeyondLog refused = (Keeps-refl old, (Keeps-refl log_old, refused))
leaves_both files old log_old (PageBeyondLog page) refused = (Keeps-refl old, (Keeps-refl log_old, refused))
