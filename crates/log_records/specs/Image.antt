-- The pages that a log makes.
use Rattle.std.specs.Prelude.{ℕ, ◌==◌, List, [], ◌∷◌, map, if◌then◌else◌}
use Rattle.std.specs.List.{range_with_len}
use Rattle.std.specs.Option.{option_map_or}
use Rattle.page_core.specs.declared.page.Page.{Page}
use Rattle.page_core.specs.Page.{formatted, put}
pub use Rattle.page_core.specs.Volume.{AreNumbered}
use Rattle.log_records.specs.declared.page_change.PageChange.{PageChange}
use Rattle.log_records.specs.declared.record.Record.{Record}
use Rattle.log_records.specs.Record.{change_of, own_lsn}

-- the page with a change at an LSN, if the change is one of this page
abbrev pub with_change : Page → ℕ → PageChange → Page
with_change page lsn c = if c.page == page.number then put page lsn c.slot c.change else page

-- the page with what a record changes on it, if it does
abbrev pub with_record : Page → Record → Page
with_record page r = option_map_or (with_change page (own_lsn r)) (change_of r) page

-- a page with the changes of these records on it, in their order, whatever its LSN
abbrev pub image_from : Page → List Record → Page
image_from page [] = page
image_from page (r ∷ rs) = image_from (with_record page r) rs

-- a page as the log makes it, from its formatting on
abbrev pub image : List Record → ℕ → Page
image records number = image_from (formatted number) records

-- the volume as the log makes it
abbrev pub redo_all : List Record → ℕ → List Page
redo_all records pages = map (image records) (range_with_len 0 pages)
