-- How far the changes of a page were redone, and what that shows of a copied page.
use Rattle.std.specs.Prelude.{ℕ, ◌≡◌, ◌↔◌, ◌/◌, ◌^◌, ◌<◌, ◌≤◌, Bool, true, false, List, length, min}
use Rattle.std.specs.Prelude.{take}
use Rattle.std.specs.Prelude.{slice_index}
use Rattle.page_core.specs.declared.numbers.TheConstants.{LSN_STEP}
use Rattle.page_core.specs.declared.page.Page.{Page}
use Rattle.page_core.specs.Page.{formatted}
use Rattle.log_records.specs.declared.record.Record.{Record}
use Rattle.log_records.specs.Coverage.{Covers, IsPast}
use Rattle.log_records.specs.Image.{image_from}
use Rattle.page_redo.specs.PageRecords.{numbers_on}
use Rattle.log_store.specs.PageHistory.{records_at}
use Rattle.copy_audit.specs.declared.reach.Reach.{Reach}
use Rattle.copy_audit.specs.declared.trace.Trace.{Trace}

-- the page has the first ones of its changes, and these are all of them among so many records
pub record IsTraced (rs : List Record) (number : ℕ) (it : Trace) : Type 0 where
  pub made : it.page ≡ image_from (formatted number)
      (records_at rs (take it.done (numbers_on rs 0 number)))
  pub within : it.done ≤ length (numbers_on rs 0 number)
  pub below : (i : ℕ) → i < it.done → slice_index (numbers_on rs 0 number) i < it.reached
  pub above : it.done < length (numbers_on rs 0 number)
      → it.reached ≤ slice_index (numbers_on rs 0 number) it.done

-- the changes were redone up to the LSN of a page, which is of the log's past or is not
pub record IsSeen (rs : List Record) (number : ℕ) (page : Page) (it : Trace) (past : Bool)
    : Type 0 where
  pub traced : IsTraced rs number it
  pub there : it.reached ≡ min (page.lsn / LSN_STEP) (length rs)
  pub is_past : past ≡ true → IsPast rs number page
  pub is_not : past ≡ false → ¬ IsPast rs number page

-- how far a page reaches: which LSN it lacks nothing below
abbrev pub IsReach : List Record → ℕ → Page → Reach → Type 0
IsReach rs number page it =
    (bound : ℕ) → bound < 2 ^ 64
    → Covers rs number page bound ↔ ((it.is_past ≡ true) × (bound ≤ it.last))
