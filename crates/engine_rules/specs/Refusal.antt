-- When a call is refused.
use Rattle.std.specs.Prelude.{ℕ, ◌+◌, ◌&&◌, ◌||◌, nat_le, nat_lt, Bool, not, length, Option}
use Rattle.std.specs.Prelude.{Some}
use Rattle.std.specs.Prelude.{is_some, is_none}
use Rattle.std.specs.Prelude.{None, if◌then◌else◌, true}
use Rattle.std.specs.Option.{option_map, option_map_or}
use Rattle.page_core.specs.declared.change.ChangeKind.{ChangeKind}
use Rattle.page_core.specs.declared.change.ChangeKind.TheVariants as kind
use Rattle.page_core.specs.declared.page.TheConstants.{MAX_PAGES, SLOTS}
use Rattle.log_records.specs.declared.limits.TheConstants.{MAX_OPEN, MAX_RECORDS}
use Rattle.log_rules.specs.Checkpoint.{open_checkpoint}
use Rattle.log_rules.specs.Savepoints.{savepoint}
use Rattle.log_rules.specs.Transactions.{holder, is_open, is_rolling, last_of, open_in, owed}
use Rattle.log_rules.specs.Transactions.{pending}
use Rattle.buffer_pool.specs.Frames.{is_full, is_resident}
use Rattle.buffer_pool.specs.Pool.{is_clean}
use Rattle.page_decisions.specs.Decisions.{decision_at, is_undecided}
use Rattle.copy_vault.specs.Vault.{CopyState, complete, complete_refusal, drop_refusal, dropped}
use Rattle.copy_vault.specs.Vault.{inc_refusal}
use Rattle.copy_vault.specs.Vault.{open_refusal, reading, seal_refusal, state_of}
use Rattle.engine_calls.specs.declared.event.Event.{Event}
use Rattle.engine_calls.specs.declared.event.Event.TheVariants as event
use Rattle.engine_calls.specs.declared.refusal.Refusal.{Refusal}
use Rattle.engine_calls.specs.declared.refusal.Refusal.TheVariants.{NoTxn, PageOut}
use Rattle.engine_calls.specs.declared.refusal.Refusal.TheVariants.{SlotOut, SlotBusy, TxnRolling}
use Rattle.engine_calls.specs.declared.refusal.Refusal.TheVariants.{NotRolling, LogFull, TooManyTxns}
use Rattle.engine_calls.specs.declared.refusal.Refusal.TheVariants.{NotDirty, WriteBegun, NoWrite}
use Rattle.engine_calls.specs.declared.refusal.Refusal.TheVariants.{CkptOpen, NoCkpt, GatherLeft}
use Rattle.engine_calls.specs.declared.refusal.Refusal.TheVariants.{NoMaster}
use Rattle.engine_calls.specs.declared.refusal.Refusal.TheVariants.{PageDecided}
use Rattle.engine_calls.specs.declared.refusal.Refusal.TheVariants.{PoolFull}
use Rattle.engine_calls.specs.declared.refusal.Refusal.TheVariants.{NoSavepoint, NotLarger}
use Rattle.engine_calls.specs.Refusal.{of_vault}
use Rattle.engine_rules.specs.EngineState.{EngineState, gathered_record, image_of, rec_lsn_of}
use Rattle.engine_rules.specs.EngineState.{taken_back}
use Rattle.engine_rules.specs.EngineState.{volume_pages}
use Rattle.engine_rules.specs.Gather.{is_done}

-- the first refusal that is there
abbrev pub or_else : Option Refusal → Option Refusal → Option Refusal
or_else None next = next
or_else (Some refusal) next = Some refusal

-- refused so, where the test holds
abbrev pub refused_if : Bool → Refusal → Option Refusal
refused_if test refusal = if test then Some refusal else None

-- records plus owed records would pass the limit, with so many more of both
abbrev pub has_no_room : EngineState → ℕ → Bool
has_no_room s more = nat_lt MAX_RECORDS (length s.log + owed s.log + more)

abbrev pub page_refusal : EngineState → ℕ → ℕ → Option Refusal
page_refusal s page slot =
    or_else (refused_if (nat_le (volume_pages s) page) PageOut)
    (refused_if (nat_le SLOTS slot) SlotOut)

-- of a call that only an active transaction may make
abbrev pub active_refusal : EngineState → ℕ → Option Refusal
active_refusal s txn =
    or_else (refused_if (not (is_open s.log txn)) NoTxn)
    (refused_if (is_rolling s.log txn) TxnRolling)

-- of a call that only a transaction may make that rolls back
abbrev pub rolling_refusal : EngineState → ℕ → Option Refusal
rolling_refusal s txn =
    or_else (refused_if (not (is_open s.log txn)) NoTxn)
    (refused_if (not (is_rolling s.log txn)) NotRolling)

-- of a call that needs a page in memory: it has to come in, and no frame can be had for it
abbrev pub frame_refusal : EngineState → ℕ → Option Refusal
frame_refusal s page =
    refused_if (not (is_resident s.resident page)
    && is_full s.frames (is_clean s.log s.written) s.resident)
    PoolFull

-- of a change: an Update owes its own compensation, so it takes room for two records
abbrev pub change_refusal : EngineState → ℕ → ℕ → ℕ → ChangeKind → Option Refusal
change_refusal s txn page slot kind =
    or_else (active_refusal s txn)
    (or_else (page_refusal s page slot)
    (or_else (option_map SlotBusy (holder s.log page slot kind txn))
    (or_else (refused_if (has_no_room s 2) LogFull) (frame_refusal s page))))

-- of a call that needs an open checkpoint
abbrev pub ckpt_refusal : EngineState → Option Refusal
ckpt_refusal s = refused_if (is_none (open_checkpoint s.log)) NoCkpt

-- of a copy that is to be read on, as of one that is to be dropped
abbrev pub copy_refusal : EngineState → ℕ → Option Refusal
copy_refusal s copy = option_map of_vault (drop_refusal (state_of s.copies copy))

-- how many pages a copy has, those of the volume when it began
abbrev pub pages_in : CopyState → ℕ
pages_in (reading copy) = length copy.pages
pages_in (complete copy) = length copy.pages
pages_in dropped = 0

-- the copy of an id has decided of a page
abbrev pub has_decided : CopyState → ℕ → Bool
has_decided (reading copy) page = not (is_undecided (decision_at copy.pages page))
has_decided (complete copy) page = true
has_decided dropped page = true

-- the refusal that needs neither memory nor a device, in the order of the checks; a Begin owes two
-- more records, a step of a gather that appends nothing needs no room, and a step back that has
-- nothing left to undo needs no page
abbrev pub refusal : EngineState → Event → Option Refusal
refusal s event.Begin =
    or_else (refused_if (nat_le MAX_OPEN (length (open_in s.log))) TooManyTxns)
    (refused_if (has_no_room s 3) LogFull)
refusal s (event.Set txn page slot number) = change_refusal s txn page slot kind.Set
refusal s (event.Add txn page slot amount) = change_refusal s txn page slot kind.Add
refusal s (event.Read page slot) = or_else (page_refusal s page slot) (frame_refusal s page)
refusal s (event.Commit txn) = active_refusal s txn
refusal s (event.Abort txn) = active_refusal s txn
refusal s (event.UndoStep txn) =
    or_else (rolling_refusal s txn)
    (option_map_or (λ p. frame_refusal s p.page) (last_of (pending s.log txn)) None)
refusal s (event.Savepoint txn) = active_refusal s txn
refusal s (event.UndoTo txn at) =
    or_else (active_refusal s txn)
    (or_else (refused_if (is_none (savepoint s.log txn at)) NoSavepoint)
    (option_map_or (λ p. frame_refusal s p.page) (taken_back s txn at) None))
refusal s event.Force = None
refusal s (event.WriteBegin page) =
    or_else (refused_if (nat_le (volume_pages s) page) PageOut)
    (or_else (refused_if (is_some (image_of s page)) WriteBegun)
    (refused_if (is_none (rec_lsn_of s page)) NotDirty))
refusal s (event.WriteEnd page) =
    or_else (refused_if (nat_le (volume_pages s) page) PageOut)
    (refused_if (is_none (image_of s page)) NoWrite)
refusal s event.CkptBegin =
    or_else (refused_if (is_some (open_checkpoint s.log)) CkptOpen)
    (refused_if (has_no_room s 1) LogFull)
refusal s event.CkptGather =
    or_else (ckpt_refusal s)
    (refused_if (is_some (gathered_record s) && has_no_room s 1) LogFull)
refusal s event.CkptEnd =
    or_else (ckpt_refusal s)
    (or_else (refused_if (not (is_done s.left)) GatherLeft)
    (refused_if (has_no_room s 1) LogFull))
refusal s event.CopyFull =
    or_else (refused_if (is_none s.master) NoMaster) (option_map of_vault (open_refusal s.copies))
refusal s (event.CopyInc parent) = option_map of_vault (inc_refusal s.copies parent)
refusal s (event.Take copy page) =
    or_else (copy_refusal s copy)
    (or_else (refused_if (nat_le (pages_in (state_of s.copies copy)) page) PageOut)
    (refused_if (has_decided (state_of s.copies copy) page) PageDecided))
refusal s (event.Seal copy) = option_map of_vault (seal_refusal (state_of s.copies copy))
refusal s (event.DropCopy copy) = copy_refusal s copy
refusal s (event.Repair copy page) =
    or_else (option_map of_vault (complete_refusal (state_of s.copies copy)))
    (or_else (refused_if (nat_le (volume_pages s) page) PageOut)
    (refused_if (is_some (image_of s page)) WriteBegun))
refusal s (event.Extend count) =
    or_else (refused_if (nat_le count (volume_pages s) || nat_lt MAX_PAGES count)
    (NotLarger (volume_pages s)))
    (refused_if (has_no_room s 1) LogFull)
