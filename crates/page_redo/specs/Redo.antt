-- Redo by the page's LSN.
use Rattle.std.specs.Prelude.{List, filter, if◌then◌else◌}
use Rattle.std.specs.List.{fold}
use Rattle.page_core.specs.declared.page.Page.{Page}
use Rattle.log_records.specs.declared.record.Record.{Record}
use Rattle.log_records.specs.Image.{image_from, with_record}
use Rattle.log_store.specs.PageHistory.{is_above}

-- a page after the redo of these records: just those above the page's LSN, in their order
abbrev pub redone : Page → List Record → Page
redone page records = image_from page (filter (is_above page.lsn) records)

-- a page after the redo of one record
abbrev pub redone_by : Page → Record → Page
redone_by page r = if is_above page.lsn r then with_record page r else page

-- a page after the redo of these records, one after another
abbrev pub redone_all : Page → List Record → Page
redone_all page records = fold redone_by page records
