-- The image copies that a vault keeps.
use Rattle.std.specs.Prelude.{ℕ, ◌≡◌, ◌+◌, ◌-◌, ◌<◌, ◌≤◌, ◌⊎◌, Bool, true, false}
use Rattle.std.specs.Prelude.{List, [], ◌∷◌, ◌++◌, length}
use Rattle.std.specs.Prelude.{map, zero, suc}
use Rattle.std.specs.Prelude.{slice_index_or, slice_set, Option, Some, None, nat_lt, if◌then◌else◌}
use Rattle.std.specs.Option.{option_map, option_or}
use Rattle.page_core.specs.declared.page.Page.{Page}
use Rattle.copy_vault.specs.declared.copy_id.CopyKind.{CopyKind}
use Rattle.copy_vault.specs.declared.copy_id.CopyKind.TheVariants.{Full, Inc}
use Rattle.copy_vault.specs.declared.copy_id.Decision.{Decision}
use Rattle.copy_vault.specs.declared.copy_id.TheConstants.{MAX_COPIES}
use Rattle.copy_vault.specs.declared.fault.CopyFault.{CopyFault}
use Rattle.copy_vault.specs.declared.fault.CopyFault.TheVariants.{OutOfMemory, NoCopy, CopyNotOpen}
use Rattle.copy_vault.specs.declared.fault.CopyFault.TheVariants.{CopyNotComplete}
use Rattle.copy_vault.specs.declared.fault.CopyFault.TheVariants.{PagesLeft, TooManyCopies}
use Rattle.copy_vault.specs.declared.vault.VaultEntry.{VaultEntry}
use Rattle.copy_vault.specs.declared.vault.VaultEntry.TheVariants as entry
use Rattle.page_decisions.specs.Decisions.{PageDecision}
use Rattle.copy_vault.specs.Copy.{CopyView, new_copy, with_decision, decided_by}
use Rattle.page_decisions.specs.Decisions.{decision_at, least_undecided, taken_count, undecided}
use Rattle.copy_vault.specs.Copy.{answer_of}

-- a copy is being read, or is complete, or was dropped while it was read
pub data CopyState : Type 0 where
  reading : (copy : CopyView) → CopyState
  complete : (copy : CopyView) → CopyState
  dropped : CopyState

-- the copy of an id, in the list of copies in order of their ids, which count from 1; an id that
-- was not given yet is as one whose copy was dropped
abbrev pub state_of : List CopyState → ℕ → CopyState
state_of copies zero = dropped
state_of copies (suc k) = slice_index_or copies k dropped

-- the copy of an id is this from now on
abbrev pub with_state : List CopyState → ℕ → CopyState → List CopyState
with_state copies id state = slice_set copies (id - 1) state

-- ---- the incremental copy and its parent

-- the redo point of a complete copy
abbrev pub redo_of : CopyState → ℕ
redo_of (reading copy) = 0
redo_of (complete copy) = copy.redo
redo_of dropped = 0

-- the LSN from which on a copy takes a page: its parent's redo point, and 0 without a parent
abbrev pub since_of : List CopyState → CopyKind → ℕ
since_of copies Full = 0
since_of copies (Inc parent) = redo_of (state_of copies parent)

-- ---- what changes

-- a copy more is read, with the next id
abbrev pub opened : List CopyState → CopyKind → ℕ → ℕ → ℕ → List CopyState
opened copies kind pages begin redo =
    copies ++ reading (new_copy (length copies + 1) kind pages begin redo) ∷ []

-- what the copy of an id answers to a stored page
abbrev pub answer_in : List CopyState → CopyState → Page → Decision
answer_in copies (reading copy) page = answer_of (since_of copies copy.kind) page
answer_in copies (complete copy) page = answer_of 0 page
answer_in copies dropped page = answer_of 0 page

-- a copy once it has answered to a stored page
abbrev pub decided_in : List CopyState → CopyState → ℕ → Page → CopyState
decided_in copies (reading copy) p page =
    reading (with_decision copy p (decided_by (answer_of (since_of copies copy.kind) page) page))
decided_in copies (complete copy) p page = complete copy
decided_in copies dropped p page = dropped

-- a page of the copy of this id is decided
abbrev pub decided : List CopyState → ℕ → ℕ → Page → List CopyState
decided copies id p page = with_state copies id (decided_in copies (state_of copies id) p page)

abbrev pub sealed_in : CopyState → CopyState
sealed_in (reading copy) = complete copy
sealed_in (complete copy) = complete copy
sealed_in dropped = dropped

-- the copy of this id is complete
abbrev pub sealed : List CopyState → ℕ → List CopyState
sealed copies id = with_state copies id (sealed_in (state_of copies id))

-- the copy of this id is dropped
abbrev pub without : List CopyState → ℕ → List CopyState
without copies id = with_state copies id dropped

-- ---- what is refused

-- a copy more is refused once 1,024 ids were given
abbrev pub open_refusal : List CopyState → Option CopyFault
open_refusal copies = if nat_lt (length copies) MAX_COPIES then None else Some TooManyCopies

-- a copy is asked for as a complete one
abbrev pub complete_refusal : CopyState → Option CopyFault
complete_refusal (reading copy) = Some CopyNotComplete
complete_refusal (complete copy) = None
complete_refusal dropped = Some NoCopy

-- an incremental copy is refused where its parent is not complete, and then as any copy
abbrev pub inc_refusal : List CopyState → ℕ → Option CopyFault
inc_refusal copies parent =
    option_or (complete_refusal (state_of copies parent)) (open_refusal copies)

-- a call that takes memory is refused for this, or is not and memory ran out
abbrev pub OpenRefuses : Option CopyFault → CopyFault → Type 0
OpenRefuses refusal fault = (refusal ≡ Some fault) ⊎ ((refusal ≡ None) × (fault ≡ OutOfMemory))

abbrev pub seal_refusal : CopyState → Option CopyFault
seal_refusal (reading copy) = option_map PagesLeft (least_undecided copy.pages)
seal_refusal (complete copy) = Some CopyNotOpen
seal_refusal dropped = Some NoCopy

abbrev pub drop_refusal : CopyState → Option CopyFault
drop_refusal (reading copy) = None
drop_refusal (complete copy) = Some CopyNotOpen
drop_refusal dropped = Some NoCopy

-- how many pages the copy has taken
abbrev pub taken_in : CopyState → ℕ
taken_in (reading copy) = taken_count copy.pages
taken_in (complete copy) = taken_count copy.pages
taken_in dropped = 0

-- the copy, where it is being read
abbrev pub reading_of : CopyState → Option CopyView
reading_of (reading copy) = Some copy
reading_of (complete copy) = None
reading_of dropped = None

-- what is decided of each page, where the copy is being read
abbrev pub pages_read : CopyState → List PageDecision
pages_read (reading copy) = copy.pages
pages_read (complete copy) = []
pages_read dropped = []

-- nothing is decided of this page of the copy, or it is not being read
abbrev pub WaitsFor : CopyState → ℕ → Type 0
WaitsFor state p = decision_at (pages_read state) p ≡ undecided

-- the copy, where it is complete
abbrev pub complete_of : CopyState → Option CopyView
complete_of (reading copy) = None
complete_of (complete copy) = Some copy
complete_of dropped = None

-- ---- the vault

-- its copies in order of their ids, and for each whether there is room for a page that it takes
pub record VaultView : Type 0 where
  pub copies : List CopyState
  pub rooms : List Bool

-- there is room for a page that the copy of this id takes
abbrev pub HasRoomForPage : VaultView → ℕ → Type 0
HasRoomForPage vault id = slice_index_or vault.rooms (id - 1) false ≡ true

-- what a vault keeps of a copy
abbrev pub state_in : VaultEntry → CopyState
state_in (entry.Reading it) = reading it.copy
state_in (entry.Complete copy) = complete copy
state_in entry.Dropped = dropped

abbrev pub room_in : VaultEntry → Bool
room_in (entry.Reading it) = it.has_room
room_in (entry.Complete copy) = false
room_in entry.Dropped = false

abbrev pub vault_view : List VaultEntry → VaultView
vault_view entries = record { copies = map state_in entries; rooms = map room_in entries }

-- the copy of this id is complete, and was there before the other one
pub record IsParent (copies : List CopyState) (parent id : ℕ) : Type 0 where
  pub before : parent < id
  pub copy : CopyView
  pub is_complete : state_of copies parent ≡ complete copy

-- an incremental copy has a parent
abbrev pub HasParent : List CopyState → ℕ → CopyKind → Type 0
HasParent copies id Full = Unit {0}
HasParent copies id (Inc parent) = IsParent copies parent id

-- a copy has this id, and its parent
pub record IsOfId (copies : List CopyState) (id : ℕ) (copy : CopyView) : Type 0 where
  pub id_is : copy.id ≡ id
  pub parent : HasParent copies id copy.kind

-- what is kept of the copy of this id: it knows from where on it takes pages
abbrev pub IsOfVault : List CopyState → ℕ → VaultEntry → Type 0
IsOfVault copies id (entry.Reading it) =
    IsOfId copies id it.copy × (it.since ≡ since_of copies it.copy.kind)
IsOfVault copies id (entry.Complete copy) = IsOfId copies id copy
IsOfVault copies id entry.Dropped = Unit {0}

-- what is kept of each copy, and there are no more than ids
pub record IsVault (entries : List VaultEntry) : Type 0 where
  pub few : length entries ≤ MAX_COPIES
  pub each : (k : ℕ)
      → IsOfVault (map state_in entries) (k + 1) (slice_index_or entries k entry.Dropped)
