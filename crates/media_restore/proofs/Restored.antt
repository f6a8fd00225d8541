-- The pages that are restored of a chain and a log.
use Rattle.std.proofs.Common.{◌≡◌, ◌∙◌, ℕ, ◌<◌, List, [], length, map}
use Rattle.std.proofs.Common.{refl, sym, ap, subst, arith}
use Rattle.std.specs.Prelude.{Option, IfSome}
use Rattle.std.proofs.KnownBytes.{Keeps-refl}
use Rattle.std.proofs.lemmas.List.{get_or-map, length-map, same_lists}
use Rattle.std.proofs.lemmas.List.FromFn.{get_or-map-range_with_len, length-map-range_with_len}
use Rattle.page_core.specs.declared.page.Page.{Page}
use Rattle.page_core.specs.Page.{volume_bytes}
use Rattle.page_core.specs.Volume.{AreNumbered, SpellsVolume}
use Rattle.log_records.specs.Coverage.{resume}
use Rattle.log_records.specs.Image.{image, image_from, redo_all}
use Rattle.log_records.specs.Log.{IsLog, Log, SpellsLog, counts_of, lsn_of, page_count}
use Rattle.log_records.proofs.Public.{resume_covering}
use Rattle.log_records.proofs.Public.{numbered-images}
use Rattle.log_rules.specs.Linked.{IsLinked}
use Rattle.log_rules.specs.Table.{TxnEntry}
use Rattle.log_store.specs.declared.fault.LogReadFault.{LogReadFault}
use Rattle.log_store.specs.declared.fault.LogReadFault.TheVariants as log
use Rattle.log_store.specs.declared.master.Master.{Master}
use Rattle.copy_vault.specs.declared.chain_read_fault.ChainReadFault.{ChainReadFault}
use Rattle.copy_vault.specs.declared.chain_read_fault.ChainReadFault.TheVariants as chain
use Rattle.copy_vault.specs.Chain.{content, contents, last_redo}
use Rattle.copy_vault.specs.ChainReading.{IsChainRead}
use Rattle.copy_vault.specs.Copy.{CopyView}
use Rattle.copy_vault.proofs.Public.{contents_numbered}
use Rattle.loser_undo.specs.Recovery.{HasCommitted, Recovery, appended}
use Rattle.loser_undo.proofs.Public.{undone_committed, undone_count, undone_whole}
use Rattle.log_records.proofs.Public.{last_count-counts_of}
use Rattle.page_core.specs.PageCounts.{PageCounts, last_count}
use Rattle.loser_undo.proofs.Public.{nothing_redone, numbered_resumed}
use Rattle.loser_undo.specs.Kept.{Kept, kept_of}
use Rattle.loser_undo.specs.UndoSink.{HasRedone}
use Rattle.media_restore.specs.declared.files_fault.RestoreFault.{RestoreFault}
use Rattle.media_restore.specs.declared.files_fault.RestoreFault.TheVariants.{OutOfMemory, LogFull, WriteFault}
use Rattle.media_restore.specs.declared.files_fault.RestoreFault.TheVariants.{BadHeader, BadRecord, Torn, ReadFault}
use Rattle.media_restore.specs.declared.files_fault.RestoreFault.TheVariants.{TooLong, BadChain, BadArchive}
use Rattle.media_restore.specs.declared.files_fault.RestoreFault.TheVariants.{ChainBroken}
use Rattle.media_restore.specs.declared.files_fault.RestoreFault.TheVariants.{CountDiffers}
use Rattle.media_restore.specs.declared.files_fault.RestoreFault.TheVariants.{RedoBeyondLog, PageBeyondLog}
use Rattle.media_restore.specs.Files.{AreCovering, AreSound, Files, HasParts, IsOfLog, IsOfMaster, IsRedoneFrom, IsRestoredFrom}
use Rattle.media_restore.specs.Files.{Leaves, Refused, redone_of}
use Rattle.media_restore.specs.Files.{of_the_log, of_the_master, of_the_archives, of_undo, of_memory}
use Rattle.media_restore.specs.FilesArchives.{end_of}
use Rattle.media_restore.specs.FilesFault as from
use Rattle.loser_undo.specs.Undo.{after_undo}

-- ---- redo of the pages of a chain

pub covering_whole : (log : Log) (copies : List CopyView) → IsLog log → AreCovering log copies
    → redone_of log copies ≡ redo_all log.records (page_count log)
covering_whole log copies valid covers =
    let rs = log.records in
    let n = page_count log in
    let f = λ (page : Page). resume page rs (last_redo copies) in
    let long = length-map-range_with_len (content copies) 0 n in
    same_lists (map f (contents copies n)) (redo_all rs n)
    (length-map (contents copies n) f ∙ long ∙ sym (length-map-range_with_len (image rs) 0 n))
    (λ k d lt.
    let below : k < n = omega (arith, length-map (contents copies n) f, long) in
    get_or-map f (contents copies n) k d d (omega arith)
    ∙ ap f (get_or-map-range_with_len (content copies) 0 n k k d below (omega arith))
    ∙ resume_covering log k (content copies k) (last_redo copies) valid (covers k below)
    ∙ sym (get_or-map-range_with_len (image rs) 0 n k k d below (omega arith)))

-- ---- what is read

pub is_of_log : (input : Option (List ℕ)) (log : Log)
    → IsLinked log.records × (IsLog log × IfSome input (SpellsLog log)) → IsOfLog input log
is_of_log input log found = record { valid = found.1.0; linked = found.0; spelled = found.1.1 }

-- with the page counts and the end that are kept of a log
pub of_log : (log : Log) (kept : Kept) (counts : PageCounts) (end : ℕ) (P : PageCounts → ℕ → Type 0)
    → kept ≡ kept_of log → counts ≡ counts_of log → end ≡ lsn_of kept.count → P counts end
    → P (counts_of log) (end_of log)
of_log log kept counts end P same same_counts same_end is =
    subst (λ (all : PageCounts). P all (end_of log)) same_counts
    (subst (P counts) (same_end ∙ ap (λ (k : Kept). lsn_of k.count) same) is)

-- all parts of the files, where their readers answer a log, a master record of it and the pages of a chain
pub all_parts : (files : Files) (log : Log) (master : Master) (pages : List Page) (redo : ℕ) → IsOfLog files.log log
    → IsOfMaster files.master log.records master
    → (read : IsChainRead (counts_of log) (end_of log) files.archives pages redo)
    → HasParts files log master read.copies
all_parts files log master pages redo of_log of_master read = record {
  of_log = of_log;
  of_master = of_master;
  of_archives = record { spelled = read.spelled; fit = read.fit; within = read.within };
  chain = read.chain;
}

pub chain_numbered : (log : Log) (inputs : List (Option (List ℕ))) (pages : List Page) (redo : ℕ)
    → IsChainRead (counts_of log) (end_of log) inputs pages redo → AreNumbered pages
chain_numbered log inputs pages redo read =
    subst AreNumbered (sym read.made) (contents_numbered read.copies (last_count (counts_of log)) read.chain)

-- their volume, with redo of the log
pub redone_pages : (log : Log) (inputs : List (Option (List ℕ))) (pages : List Page) (redo : ℕ)
    → (read : IsChainRead (counts_of log) (end_of log) inputs pages redo)
    → map (λ page. resume page log.records redo) pages ≡ redone_of log read.copies
redone_pages log inputs pages redo read =
    ap (λ (ps : List Page). map (λ page. resume page log.records redo) ps)
    (read.made ∙ ap (contents read.copies) (last_count-counts_of log))
    ∙ ap (λ (from : ℕ). map (λ page. resume page log.records from) (contents read.copies (page_count log))) read.last

-- undo begins with this volume
pub volume_redone : (files : Files) (log : Log) (losers : List TxnEntry) (count : ℕ) (pages : List Page)
    → IsRedoneFrom files log losers count pages → HasRedone log pages [] pages
volume_redone files log losers count pages from =
    let n = page_count log in
    let chain = contents from.copies n in
    let redo = last_redo from.copies in
    nothing_redone log pages
    (ap length from.made ∙ length-map chain (λ page. resume page log.records redo)
    ∙ length-map-range_with_len (content from.copies) 0 n)
    (subst AreNumbered (sym from.made)
    (numbered_resumed chain log.records redo (contents_numbered from.copies n from.parts.chain)))

-- ---- what undo leaves

-- where redo made the log's volume, undo leaves what was committed
pub sound_of : (log : Log) (master : Master) (pages it : List Page) → IsLog log → IsLinked log.records
    → it ≡ map (λ page. image_from page (appended log)) pages → pages ≡ redo_all log.records (page_count log)
    → AreSound log it
sound_of log master pages it valid linked made whole =
    let r : Recovery = record { log = log; master = master; pages = pages } in
    record {
      whole = made ∙ undone_whole r whole ∙ ap (redo_all (after_undo log.records)) (sym (undone_count log));
      committed = subst (HasCommitted log.records) (sym made) (undone_committed r valid linked whole);
    }

unfoldable pub restored_of : (files : Files) (log : Log) (losers : List TxnEntry) (count : ℕ) (pages it : List Page)
    → IsRedoneFrom files log losers count pages → it ≡ map (λ page. image_from page (appended log)) pages
    → IsRestoredFrom files it
restored_of files log losers count pages it from made =
    let of_log = from.parts.of_log in
    record {
      log = log;
      master = from.master;
      copies = from.copies;
      parts = from.parts;
      room = from.to_undo.room;
      made = made ∙ ap (map (λ page. image_from page (appended log))) from.made;
      sound = λ covers. sound_of log from.master pages it of_log.valid of_log.linked made
          (from.made ∙ covering_whole log from.copies of_log.valid covers);
    }

-- restored pages stand in order of their numbers, so their bytes spell a volume
pub restored_spelled : (files : Files) (pages : List Page) → IsRestoredFrom files pages
    → SpellsVolume pages (volume_bytes pages)
restored_spelled files pages it =
    let n = page_count it.log in
    let chain = contents it.copies n in
    let redo = last_redo it.copies in
    record {
      numbered = subst AreNumbered (sym it.made)
          (numbered-images (redone_of it.log it.copies) (appended it.log)
          (numbered_resumed chain it.log.records redo (contents_numbered it.copies n it.parts.chain)));
      spelled = refl;
    }

-- ---- where they are refused

-- the fault of the files is no fault of writing

no_log : (why : LogReadFault) (done : ℕ) → ¬ (WriteFault done ≡ from.of_log why)
no_log log.OutOfMemory done e = cc
no_log log.BadHeader done e = cc
no_log (log.BadRecord at) done e = cc
no_log (log.BadChain at) done e = cc
no_log (log.Torn at) done e = cc
no_log log.ReadFault done e = cc
no_log log.TooLong done e = cc

no_chain : (why : ChainReadFault) (done : ℕ) → ¬ (WriteFault done ≡ from.of_chain why)
no_chain chain.OutOfMemory done e = cc
no_chain (chain.BadArchive at) done e = cc
no_chain (chain.ChainBroken copy) done e = cc
no_chain chain.CountDiffers done e = cc
no_chain chain.ReadFault done e = cc
no_chain chain.RedoBeyondLog done e = cc
no_chain (chain.PageBeyondLog page) done e = cc

pub no_write : (files : Files) (done : ℕ) → ¬ Refused files (WriteFault done)
no_write files done (of_the_log refused) = no_log refused.why done refused.same
no_write files done (of_the_master log is refused) = refused
no_write files done (of_the_archives log master is named refused) = no_chain refused.why done refused.same
no_write files done (of_undo log master copies parts e full) = cc
no_write files done (of_memory e) = cc

pub leaves : (files : Files) (old : Option (List ℕ)) (fault : RestoreFault) → Refused files fault
    → Leaves files old old fault
leaves files old OutOfMemory refused = (Keeps-refl old, refused)
leaves files old LogFull refused = (Keeps-refl old, refused)
leaves files old (WriteFault done) refused = absurd (no_write files done refused)
leaves files old BadHeader refused = (Keeps-refl old, refused)
leaves files old (BadRecord at) refused = (Keeps-refl old, refused)
leaves files old (Torn at) refused = (Keeps-refl old, refused)
leaves files old ReadFault refused = (Keeps-refl old, refused)
leaves files old TooLong refused = (Keeps-refl old, refused)
leaves files old (BadChain at) refused = (Keeps-refl old, refused)
leaves files old (BadArchive at) refused = (Keeps-refl old, refused)
leaves files old (ChainBroken copy) refused = (Keeps-refl old, refused)
leaves files old CountDiffers refused = (Keeps-refl old, refused)
leaves files old RedoBeyondLog refused = (Keeps-refl old, refused)
leaves files old (PageBeyondLog page) refused = (Keeps-refl old, refused)
