-- The pages of a database that is opened again.
use Rattle.std.proofs.Common.{◌≡◌, List, ap, length, subst, sym, ◌∙◌}
use Rattle.page_core.specs.declared.page.Page.{Page}
use Rattle.page_core.specs.Volume.{AreNumbered}
use Rattle.log_records.specs.Image.{redo_all}
use Rattle.log_records.specs.Log.{IsLog, IsPageCount, Log, page_count}
use Rattle.log_records.proofs.Public.{length-redo_all, numbered-redo_all}
use Rattle.log_records.proofs.Public.{page_count-is_count}
use Rattle.loser_undo.proofs.Public.{undone_count}
use Rattle.engine_restart.specs.Restart.{undone_log}

pub are_counted : (log now : Log) (pages : List Page) → IsLog log → now ≡ undone_log log
    → pages ≡ redo_all now.records (page_count now) → IsPageCount (length pages)
are_counted log now pages valid is made =
    let count : page_count now ≡ page_count log = ap page_count is ∙ sym (undone_count log) in
    let long : length pages ≡ page_count now =
    ap (length {A = Page}) made ∙ length-redo_all now.records (page_count now) in
    subst IsPageCount (sym (long ∙ count)) (page_count-is_count log valid)

pub are_numbered : (now : Log) (pages : List Page) → pages ≡ redo_all now.records (page_count now) → AreNumbered pages
are_numbered now pages made = subst AreNumbered (sym made) (numbered-redo_all now.records (page_count now))
