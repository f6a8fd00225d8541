use Rattle.std.proofs.Common.{◌∙◌, ap, arith, length, map, refl, sym, subst}
use Rattle.std.proofs.lemmas.List.{length-map, with_items_is}
use Rattle.std.proofs.lemmas.Result.{err_from_is_err_and}
use Rattle.page_core.specs.declared.page.Page.{Page}
use Rattle.page_core.specs.Volume.{AreNumbered}
use Rattle.log_records.specs.Coverage.{resume}
use Rattle.log_records.specs.Log.{counts_of}
use Rattle.loser_undo.specs.Kept.{Kept}
use Rattle.copy_vault.specs.ChainReading.{AreNoChain, IsChainRead}
use Rattle.media_restore.specs.Files.{Files, of_the_archives, of_the_master, of_undo}
use Rattle.media_restore.specs.FilesArchives.{end_of}
use Rattle.media_restore.specs.FilesStop.{the_archives, the_log, the_master}
use Rattle.media_restore.proofs.Restored.{all_parts, chain_numbered, is_of_log, of_log, redone_pages}
use Rattle.media_restore.proofs.Undoing.{may_be_undone, total}
use Rattle.media_restore.proofs.files.read_files.Given.{Over}
use Rattle.media_restore.proofs.files.read_files.Goals as goal

pub returns-in_err-changes-clause-stops : goal.returns-in_err-changes-clause-stops
returns-in_err-changes-clause-stops g c =
    let p = err_from_is_err_and c.from_residual.result c.from_residual.ensures.1 in
    rw (p.1, p.2) (the_log c.in_err-changes.field-0.0 refl c.in_err-changes.ensures.unread refl refl)

-- ---- the master record is refused

pub returns-in_err-read_master-clause-err : goal.returns-in_err-read_master-clause-err
returns-in_err-read_master-clause-err g c =
    let found = c.in_ok-changes.ensures.found in
    let p = err_from_is_err_and c.from_residual-in_err-read_master.result c.from_residual-in_err-read_master.ensures.1 in
    rw (p.1, p.2) (of_the_master found.0 (is_of_log (g.L.Read.remaining c.args.log.now) found.0 found.1.1.1.1.1)
    (c.in_err-read_master.ensures.err found.0 found.1.0 found.1.1.1.1.1.0))

pub returns-in_err-read_master-clause-stops : goal.returns-in_err-read_master-clause-stops
returns-in_err-read_master-clause-stops g c =
    let found = c.in_ok-changes.ensures.found in
    let p = err_from_is_err_and c.from_residual-in_err-read_master.result c.from_residual-in_err-read_master.ensures.1 in
    rw (p.1, p.2) (the_master found.0 (is_of_log (g.L.Read.remaining c.args.log.now) found.0 found.1.1.1.1.1)
    (c.read_changes_and.ensures.known, c.in_ok-changes.ensures.end) c.in_err-read_master.ensures.stops refl)

-- ---- the archives are refused

refused : (g : Over) (c : goal.After-drop-changes-inside-in_err-pages-3 g)
    → AreNoChain (counts_of c.in_ok-changes.ensures.found.0) (end_of c.in_ok-changes.ensures.found.0)
    (map g.A.Read.remaining c.args.archives.now) (map g.A.Read.remaining c.read_chain_pages_into.new.readers)
    c.in_err-pages.field-0.0
refused g c =
    let found = c.in_ok-changes.ensures.found in
    of_log found.0 c.in_ok-changes.field-0.changes c.counts.result.now c.end-end.result
    (λ counts end. AreNoChain counts end (map g.A.Read.remaining c.args.archives.now)
    (map g.A.Read.remaining c.read_chain_pages_into.new.readers) c.in_err-pages.field-0.0)
    found.1.0 (c.counts.ensures found.0 found.1.0) c.end-end.ensures c.in_err-pages.ensures.err

pub returns-in_err-pages-clause-err : goal.returns-in_err-pages-clause-err
returns-in_err-pages-clause-err g c =
    let found = c.in_ok-changes.ensures.found in
    let p = err_from_is_err_and c.from_residual-in_err-pages.result c.from_residual-in_err-pages.ensures.1 in
    rw (p.1, p.2) (of_the_archives found.0 c.in_ok-read_master.field-0
    (is_of_log (g.L.Read.remaining c.args.log.now) found.0 found.1.1.1.1.1)
    (c.in_ok-read_master.ensures.ok found.0 found.1.0 found.1.1.1.1.1.0) (record {
      why = c.in_err-pages.field-0.0;
      same = refl;
      lefts = map g.A.Read.remaining c.read_chain_pages_into.new.readers;
      refused = refused g c;
    }))

pub returns-in_err-pages-clause-stops : goal.returns-in_err-pages-clause-stops
returns-in_err-pages-clause-stops g c =
    let found = c.in_ok-changes.ensures.found in
    let p = err_from_is_err_and c.from_residual-in_err-pages.result c.from_residual-in_err-pages.ensures.1 in
    rw (p.1, p.2) (the_archives found.0 c.in_ok-read_master.field-0
    (is_of_log (g.L.Read.remaining c.args.log.now) found.0 found.1.1.1.1.1)
    (c.read_changes_and.ensures.known, c.in_ok-changes.ensures.end)
    (c.in_ok-read_master.ensures.ok found.0 found.1.0 found.1.1.1.1.1.0) c.in_ok-read_master.ensures.end
    c.in_err-pages.field-0.0 refl (refused g c))

-- ---- all files are read

pub overflow_add-count : goal.overflow_add-count
overflow_add-count g c =
    let found = c.in_ok-changes.ensures.found in
    let log = found.0 in
    let kept = c.in_ok-changes.field-0.changes in
    let losers = c.in_ok-changes.field-0.losers in
    let all = total log kept losers c.count-count.result found.1.1.1.1.1.1.0 found.1.1.1.1.1.0 found.1.0 found.1.1.1.0
    c.count-count.ensures c.owed.result c.owed.ensures in
    omega (arith, all.few)

pub returns-then-count-owed-clause-err : goal.returns-then-count-owed-clause-err
returns-then-count-owed-clause-err g c =
    let found = c.in_ok-changes.ensures.found in
    let log = found.0 in
    let kept = c.in_ok-changes.field-0.changes in
    let losers = c.in_ok-changes.field-0.losers in
    let inputs = map g.A.Read.remaining c.args.archives.now in
    let pages = c.in_ok-pages.pages.items in
    let chain = of_log log kept c.counts.result.now c.end-end.result
    (λ counts end. IsChainRead counts end inputs pages c.in_ok-pages.redo) found.1.0 (c.counts.ensures log found.1.0)
    c.end-end.ensures c.in_ok-pages.ensures.ok in
    let files : Files = record {
      log = g.L.Read.remaining c.args.log.now;
      master = g.M.Read.remaining c.args.master.now;
      archives = inputs;
    } in
    let master = c.in_ok-read_master.field-0 in
    let parts = all_parts files log master pages c.in_ok-pages.redo (is_of_log files.log log found.1.1.1.1.1)
    (c.in_ok-read_master.ensures.ok log found.1.0 found.1.1.1.1.1.0) chain in
    let all = total log kept losers c.count-count.result found.1.1.1.1.1.1.0 found.1.1.1.1.1.0 found.1.0 found.1.1.1.0
    c.count-count.ensures c.owed.result c.owed.ensures in
    of_undo log master chain.copies parts refl (omega (arith, all.is, c.if-count-owed.true))

pub redo_changes-requires-clause-numbered : goal.redo_changes-requires-clause-numbered
redo_changes-requires-clause-numbered g c κs within =
    let found = c.in_ok-changes.ensures.found in
    let log = found.0 in
    let kept = c.in_ok-changes.field-0.changes in
    let inputs = map g.A.Read.remaining c.args.archives.now in
    let pages = c.in_ok-pages.pages.items in
    let chain = of_log log kept c.counts.result.now c.end-end.result
    (λ counts end. IsChainRead counts end inputs pages c.in_ok-pages.redo) found.1.0 (c.counts.ensures log found.1.0)
    c.end-end.ensures c.in_ok-pages.ensures.ok in
    subst AreNumbered (sym c.deref_mut.ensures.value) (chain_numbered log inputs pages c.in_ok-pages.redo chain)

pub returns-clause-ok : goal.returns-clause-ok
returns-clause-ok g c =
    let found = c.in_ok-changes.ensures.found in
    let log = found.0 in
    let kept = c.in_ok-changes.field-0.changes in
    let losers = c.in_ok-changes.field-0.losers in
    let inputs = map g.A.Read.remaining c.args.archives.now in
    let pages = c.in_ok-pages.pages.items in
    let chain = of_log log kept c.counts.result.now c.end-end.result
    (λ counts end. IsChainRead counts end inputs pages c.in_ok-pages.redo) found.1.0 (c.counts.ensures log found.1.0)
    c.end-end.ensures c.in_ok-pages.ensures.ok in
    let files : Files = record {
      log = g.L.Read.remaining c.args.log.now;
      master = g.M.Read.remaining c.args.master.now;
      archives = inputs;
    } in
    let master = c.in_ok-read_master.field-0 in
    let parts = all_parts files log master pages c.in_ok-pages.redo (is_of_log files.log log found.1.1.1.1.1)
    (c.in_ok-read_master.ensures.ok log found.1.0 found.1.1.1.1.1.0) chain in
    let all = total log kept losers c.count-count.result found.1.1.1.1.1.1.0 found.1.1.1.1.1.0 found.1.0 found.1.1.1.0
    c.count-count.ensures c.owed.result c.owed.ensures in
    let redo = λ (page : Page). resume page log.records c.in_ok-pages.redo in
    let made = c.redo_changes.ensures log found.1.1.1.1.1.1.0
    (c.changes-2.ensures ∙ ap (λ (k : Kept). k.changes) found.1.0) in
    let long = ap length made ∙ length-map c.deref_mut.result.now redo ∙ c.deref_mut.ensures.len in (
      log,
      (
        found.1.1.0,
        record {
          master = master;
          copies = chain.copies;
          parts = parts;
          to_undo = may_be_undone log kept losers c.count-count.result found.1.1.1.1.1.1.0 found.1.1.1.1.1.0 found.1.0
              found.1.1.1.0 c.count-count.ensures (omega (arith, all.is, c.if-count-owed.false));
          made = with_items_is c.in_ok-pages.pages c.redo_changes.new.pages long ∙ made
              ∙ ap (map redo) c.deref_mut.ensures.value ∙ redone_pages log inputs pages c.in_ok-pages.redo chain;
        },
      ),
    )
