use Rattle.std.proofs.Common.{◌≡◌, take}
use Rattle.std.specs.List.{filter}
use Rattle.log_records.specs.Image.{image_from}
use Rattle.log_store.specs.PageHistory.{is_above, records_at}
use Rattle.log_store.proofs.redo.redo_numbered.Given as goal

abbrev pub invariant-loop-number : goal.invariant-loop-number
invariant-loop-number l = l.page ≡ image_from l.fn.page
    (filter (is_above l.fn.page.lsn) (records_at l.records (take l.number-index l.numbers)))
