use Rattle.std.proofs.Common.{◌≡◌, take}
use Rattle.std.specs.List.{filter}
use Rattle.log_records.specs.Image.{image_from}
use Rattle.log_store.specs.PageHistory.{is_above}
use Rattle.page_redo.proofs.redo.redo_page.Given as goal

abbrev pub invariant-loop-record : goal.invariant-loop-record
invariant-loop-record l = l.page ≡ image_from l.fn.page
    (filter (is_above l.fn.page.lsn) (take l.record-index l.records))
