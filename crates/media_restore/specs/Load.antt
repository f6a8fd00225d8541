-- What is loaded of a copy, and when that is refused.
use Rattle.std.specs.Prelude.{ℕ, ◌≡◌, ◌-◌, ◌/◌, ◌⊎◌, List, length, take, Option, Some, None, min}
use Rattle.std.specs.Prelude.{nat_lt, if◌then◌else◌}
use Rattle.page_core.specs.declared.numbers.TheConstants.{LSN_STEP}
use Rattle.page_core.specs.declared.page.Page.{Page}
use Rattle.log_records.specs.Log.{Log}
use Rattle.log_rules.specs.Checkpoint.{IsCompleteCheckpoint}
use Rattle.log_store.specs.declared.master.Master.{Master}
use Rattle.copy_vault.specs.Vault.{CopyState, complete, dropped, reading, state_of}
use Rattle.copy_coverage.specs.Retired.{RetiredView}
use Rattle.loser_undo.specs.Recovery.{IsRecovery}
use Rattle.media_restore.specs.declared.fault.LoadFault.{LoadFault}
use Rattle.media_restore.specs.declared.fault.LoadFault.TheVariants.{NoCopy, CopyNotComplete}
use Rattle.media_restore.specs.declared.fault.LoadFault.TheVariants.{CutTooShort, OutOfMemory}

-- the log, its last complete checkpoint, the loaded pages, and where redo begins
pub record LoadedView : Type 0 where
  pub log : Log
  pub master : Master
  pub pages : List Page
  pub redo : ℕ

-- the log is linked, the pages are as many as it says, in order of their numbers, and the master
-- record names a complete checkpoint of the log
pub record IsLoaded (it : LoadedView) : Type 0 where
  pub is : IsRecovery (record { log = it.log; master = it.master; pages = it.pages })
  pub checkpoint : IsCompleteCheckpoint it.log.records it.master.begin it.master.end

-- the log of which `cut` records are kept, or all
abbrev pub kept_log : Log → ℕ → Log
kept_log log cut = record log { records = take cut log.records }

-- how many records lie below a forced end
abbrev pub forced_count : ℕ → ℕ
forced_count forced_end = forced_end / LSN_STEP - 1

-- of a copy
abbrev pub copy_refusal : CopyState → Option LoadFault
copy_refusal (reading copy) = Some CopyNotComplete
copy_refusal (complete copy) = None
copy_refusal dropped = Some NoCopy

-- of a cut, where the log has so many records and is forced so far
abbrev pub cut_refusal : ℕ → ℕ → ℕ → Option LoadFault
cut_refusal forced_end count cut =
    let forced = forced_count forced_end in
    if nat_lt (min cut count) forced then Some (CutTooShort forced) else None

-- the first refusal that is there
abbrev pub first_of : Option LoadFault → Option LoadFault → Option LoadFault
first_of None next = next
first_of (Some fault) next = Some fault

-- the refusal that needs no memory
abbrev pub load_refusal : RetiredView → ℕ → ℕ → Option LoadFault
load_refusal it id cut =
    first_of (copy_refusal (state_of it.copies id))
    (cut_refusal it.forced_end (length it.log.records) cut)

-- the load is refused for this, or is not and memory ran out
abbrev pub LoadRefuses : Option LoadFault → LoadFault → Type 0
LoadRefuses refusal fault = (refusal ≡ Some fault) ⊎ ((refusal ≡ None) × (fault ≡ OutOfMemory))
