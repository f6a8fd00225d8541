-- What redo needs of a record: a change, and the LSN of the record.
use Rattle.std.specs.Prelude.{ℕ, ◌≡◌, ◌+◌, ◌<◌, ◌==◌, ◌&&◌, Bool, List, nat_le, nat_lt}
use Rattle.std.specs.Prelude.{Option, if◌then◌else◌, length, refl, slice_index_or}
use Rattle.std.specs.List.{filter_map, fold}
use Rattle.std.specs.Option.{option_map}
use Rattle.page_core.specs.declared.change.Change.{Change}
use Rattle.page_core.specs.declared.change.Change.TheVariants.{Set, Add}
use Rattle.page_core.specs.declared.change.ChangeKind.{ChangeKind}
use Rattle.page_core.specs.declared.change.ChangeKind.TheVariants as kind
use Rattle.page_core.specs.declared.page.Page.{Page}
use Rattle.page_core.specs.Change.{kind_of}
use Rattle.page_core.specs.Page.{put}
use Rattle.log_records.specs.declared.page_change.PageChange.{PageChange}
use Rattle.log_records.specs.declared.record.Record.{Record}
use Rattle.log_records.specs.Record.{change_of, own_lsn}

-- a change of a slot of a page, by the record at an LSN
pub record Placed : Type 0 where
  pub lsn : ℕ
  pub page : ℕ
  pub slot : ℕ
  pub change : Change

-- a change without the number that it replaces, which undo alone needs
abbrev pub redo_part : Change → Change
redo_part (Set before after) = Set 0 after
redo_part (Add amount) = Add amount

-- the change of a kind with its number
abbrev pub change_with : ChangeKind → ℕ → Change
change_with kind.Set number = Set 0 number
change_with kind.Add number = Add number

-- the number that a change sets or adds
abbrev pub number_of : Change → ℕ
number_of (Set before after) = after
number_of (Add amount) = amount

-- the change of a kind with a number gives both back
pub number_again : (k : ChangeKind) (number : ℕ) → number_of (change_with k number) ≡ number
number_again kind.Set number = refl
number_again kind.Add number = refl

pub kind_again : (k : ChangeKind) (number : ℕ) → kind_of (change_with k number) ≡ k
kind_again kind.Set number = refl
kind_again kind.Add number = refl

-- a change that stands at an LSN
abbrev pub placed_at : ℕ → PageChange → Placed
placed_at lsn c = record { lsn = lsn; page = c.page; slot = c.slot; change = redo_part c.change }

-- what redo needs of a record, if it changes a page
abbrev pub placed_by : Record → Option Placed
placed_by r = option_map (placed_at (own_lsn r)) (change_of r)

-- and of these records, in their order
abbrev pub placed_in : List Record → List Placed
placed_in rs = filter_map placed_by rs

-- the page with a change, if it is one of this page
abbrev pub with_placed : Page → Placed → Page
with_placed page c = if c.page == page.number then put page c.lsn c.slot c.change else page

-- a change is redone where it is at or above the redo point, and above the page's LSN
abbrev pub is_redone : ℕ → ℕ → Placed → Bool
is_redone from lsn c = nat_le from c.lsn && nat_lt lsn c.lsn

-- ---- change after change, on some pages of a volume

-- a page after redo of one change
abbrev pub redone_by : ℕ → Page → Placed → Page
redone_by from page c = if is_redone from page.lsn c then with_placed page c else page

-- and of these changes, one after another
abbrev pub redone_each : List Placed → ℕ → Page → Page
redone_each cs from page = fold (redone_by from) page cs

-- the pages stand in order of their numbers, which count from this one
abbrev pub AreNumberedFrom : ℕ → List Page → Type 0
AreNumberedFrom first pages =
    (k : ℕ) (d : Page) → k < length pages → (slice_index_or pages k d).number ≡ first + k
