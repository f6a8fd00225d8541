-- What the image copies are, and when a call on them is refused, by events and replies alone.
use Rattle.std.specs.Prelude.{ℕ, zero, suc, ◌-◌, ◌++◌, nat_le, Bool, true, false, not}
use Rattle.std.specs.Prelude.{List, [], ◌∷◌, length, map, replicate, slice_index_or, slice_set}
use Rattle.std.specs.Prelude.{Option, Some, None, Result, Ok}
use Rattle.std.specs.List.{position}
use Rattle.std.specs.Option.{option_map, option_map_or}
use Rattle.fuzzy_ckpt.specs.declared.point.Point.{Point}
use Rattle.copy_vault.specs.declared.copy_id.CopyKind.{CopyKind}
use Rattle.copy_vault.specs.declared.copy_id.CopyKind.TheVariants.{Full, Inc}
use Rattle.copy_vault.specs.declared.copy_id.TheConstants.{MAX_COPIES}
use Rattle.page_decisions.specs.Decisions.{PageDecision, undecided, taken, kept}
use Rattle.copy_vault.specs.Vault.{CopyState, reading, complete, dropped}
use Rattle.engine_calls.specs.declared.event.Answer.{Answer}
use Rattle.engine_calls.specs.declared.event.Answer.TheVariants as answer
use Rattle.engine_calls.specs.declared.event.Event.{Event}
use Rattle.engine_calls.specs.declared.event.Event.TheVariants as event
use Rattle.engine_calls.specs.declared.refusal.Refusal.{Refusal}
use Rattle.engine_calls.specs.declared.refusal.Refusal.TheVariants.{NoMaster, NoCopy, CopyNotOpen}
use Rattle.engine_calls.specs.declared.refusal.Refusal.TheVariants.{CopyNotComplete, PageDecided}
use Rattle.engine_calls.specs.declared.refusal.Refusal.TheVariants.{PageOut, PagesLeft, TooManyCopies}
use Rattle.engine_rules.specs.CkptReplies.{VolumeSize, new_size, with_point, with_size}
use Rattle.engine_rules.specs.Refusal.{or_else, refused_if}

-- of a page of a copy: nothing was answered yet, or that it was taken with this LSN, or that the
-- copy keeps what its parent has
pub data PageMark : Type 0 where
  not_decided : PageMark
  was_taken : (lsn : ℕ) → PageMark
  was_kept : PageMark

-- a copy of this kind is being read, or is complete, with a mark for each page; or it was dropped
pub data CatalogueEntry : Type 0 where
  being_read : (kind : CopyKind) (marks : List PageMark) → CatalogueEntry
  is_complete : (kind : CopyKind) (marks : List PageMark) → CatalogueEntry
  was_dropped : CatalogueEntry

-- ---- what a copy is as an entry

abbrev pub mark_of : PageDecision → PageMark
mark_of undecided = not_decided
mark_of (taken page) = was_taken page.lsn
mark_of kept = was_kept

abbrev pub entry_of : CopyState → CatalogueEntry
entry_of (reading copy) = being_read copy.kind (map mark_of copy.pages)
entry_of (complete copy) = is_complete copy.kind (map mark_of copy.pages)
entry_of dropped = was_dropped

-- ---- the entries by ids, which count from 1

-- the entry of an id; an id that was not given yet is as one whose copy was dropped
abbrev pub entry_at : List CatalogueEntry → ℕ → CatalogueEntry
entry_at entries zero = was_dropped
entry_at entries (suc k) = slice_index_or entries k was_dropped

abbrev pub with_entry : List CatalogueEntry → ℕ → CatalogueEntry → List CatalogueEntry
with_entry entries id entry = slice_set entries (id - 1) entry

-- ---- what an accepted call makes of the entries

-- a copy more, with the next id
abbrev pub with_next_copy : List CatalogueEntry → CopyKind → ℕ → List CatalogueEntry
with_next_copy entries kind pages =
    entries ++ being_read kind (replicate pages not_decided) ∷ []

abbrev pub answered_mark : Answer → PageMark
answered_mark (answer.Taken lsn) = was_taken lsn
answered_mark answer.Kept = was_kept
answered_mark other = not_decided

abbrev pub with_mark : CatalogueEntry → ℕ → PageMark → CatalogueEntry
with_mark (being_read kind marks) page mark = being_read kind (slice_set marks page mark)
with_mark entry page mark = entry

abbrev pub completed : CatalogueEntry → CatalogueEntry
completed (being_read kind marks) = is_complete kind marks
completed entry = entry

-- an accepted call on copies gives one an id, and so many pages, decides of a page, completes a copy, or drops it
abbrev pub with_copy_event : ℕ → List CatalogueEntry → Event → Result Answer Refusal
    → List CatalogueEntry
with_copy_event pages entries event.CopyFull (Ok answer) = with_next_copy entries Full pages
with_copy_event pages entries (event.CopyInc parent) (Ok answer) =
    with_next_copy entries (Inc parent) pages
with_copy_event pages entries (event.Take copy page) (Ok answer) =
    with_entry entries copy (with_mark (entry_at entries copy) page (answered_mark answer))
with_copy_event pages entries (event.Seal copy) (Ok answer) =
    with_entry entries copy (completed (entry_at entries copy))
with_copy_event pages entries (event.DropCopy copy) (Ok answer) =
    with_entry entries copy was_dropped
with_copy_event pages entries event reply = entries

-- a copy has the pages that the volume had where the checkpoint of the last Point began
abbrev pub pages_of_point : Option Point → ℕ
pages_of_point point = option_map_or (λ p. p.pages) point 0

abbrev pub catalogue_from : VolumeSize → Option Point → List CatalogueEntry → List Event
    → List (Result Answer Refusal) → List CatalogueEntry
catalogue_from size point entries [] replies = entries
catalogue_from size point entries (event ∷ events) [] = entries
catalogue_from size point entries (event ∷ events) (reply ∷ replies) =
    catalogue_from (with_size size event reply) (with_point size point event reply)
    (with_copy_event (pages_of_point point) entries event reply) events replies

-- the copies of a volume that began with so many pages, in order of their ids
abbrev pub catalogue : ℕ → List Event → List (Result Answer Refusal) → List CatalogueEntry
catalogue pages events replies = catalogue_from (new_size pages) None [] events replies

-- ---- when a call on copies is refused

abbrev pub has_no_mark : PageMark → Bool
has_no_mark not_decided = true
has_no_mark mark = false

-- a copy that is to be read on, or to be dropped
abbrev pub reading_refusal : CatalogueEntry → Option Refusal
reading_refusal (being_read kind marks) = None
reading_refusal (is_complete kind marks) = Some CopyNotOpen
reading_refusal was_dropped = Some NoCopy

-- a copy that is to be a parent, or to repair a page
abbrev pub parent_refusal : CatalogueEntry → Option Refusal
parent_refusal (being_read kind marks) = Some CopyNotComplete
parent_refusal (is_complete kind marks) = None
parent_refusal was_dropped = Some NoCopy

-- the marks of a copy
abbrev pub marks_of : CatalogueEntry → List PageMark
marks_of (being_read kind marks) = marks
marks_of (is_complete kind marks) = marks
marks_of was_dropped = []

abbrev pub has_mark : CatalogueEntry → ℕ → Bool
has_mark entry page = not (has_no_mark (slice_index_or (marks_of entry) page not_decided))

-- a copy more is refused once each id was given
abbrev pub count_refusal : List CatalogueEntry → Option Refusal
count_refusal entries = refused_if (nat_le MAX_COPIES (length entries)) TooManyCopies

-- the refusal of a call on copies, in the order of the checks, where a master is there or not
abbrev pub catalogue_refusal : Bool → ℕ → List CatalogueEntry → Event → Option Refusal
catalogue_refusal has_master pages entries event.CopyFull =
    or_else (refused_if (not has_master) NoMaster) (count_refusal entries)
catalogue_refusal has_master pages entries (event.CopyInc parent) =
    or_else (parent_refusal (entry_at entries parent)) (count_refusal entries)
catalogue_refusal has_master pages entries (event.Take copy page) =
    or_else (reading_refusal (entry_at entries copy))
    (or_else (refused_if (nat_le (length (marks_of (entry_at entries copy))) page) PageOut)
    (refused_if (has_mark (entry_at entries copy) page) PageDecided))
catalogue_refusal has_master pages entries (event.Seal copy) =
    or_else (reading_refusal (entry_at entries copy))
    (option_map PagesLeft (position has_no_mark (marks_of (entry_at entries copy))))
catalogue_refusal has_master pages entries (event.DropCopy copy) =
    reading_refusal (entry_at entries copy)
catalogue_refusal has_master pages entries (event.Repair copy page) =
    or_else (parent_refusal (entry_at entries copy)) (refused_if (nat_le pages page) PageOut)
catalogue_refusal has_master pages entries other = None
