-- What is printed of a refusal.
use Rattle.std.specs.Prelude.{ℕ, List, Option, Some, None}
use Rattle.page_core.specs.FaultName.{fault_line, fault_line_with}
use Rattle.page_core.specs.declared.fault_name.FaultName.{FaultName}
use Rattle.page_core.specs.declared.fault_name.FaultName.TheVariants as name
use Rattle.copy_vault.specs.declared.fault.CopyFault.{CopyFault}
use Rattle.copy_vault.specs.declared.fault.CopyFault.TheVariants as fault
use Rattle.engine_calls.specs.declared.refusal.Refusal.{Refusal}
use Rattle.engine_calls.specs.declared.refusal.Refusal.TheVariants.{OutOfMemory, NoTxn, PageOut}
use Rattle.engine_calls.specs.declared.refusal.Refusal.TheVariants.{SlotOut, SlotBusy, TxnRolling}
use Rattle.engine_calls.specs.declared.refusal.Refusal.TheVariants.{NotRolling, LogFull, TooManyTxns}
use Rattle.engine_calls.specs.declared.refusal.Refusal.TheVariants.{NotDirty, WriteBegun, NoWrite}
use Rattle.engine_calls.specs.declared.refusal.Refusal.TheVariants.{CkptOpen, NoCkpt, GatherLeft}
use Rattle.engine_calls.specs.declared.refusal.Refusal.TheVariants.{NoMaster, NoCopy, CopyNotOpen}
use Rattle.engine_calls.specs.declared.refusal.Refusal.TheVariants.{CopyNotComplete, PageDecided}
use Rattle.engine_calls.specs.declared.refusal.Refusal.TheVariants.{PagesLeft, TooManyCopies}
use Rattle.engine_calls.specs.declared.refusal.Refusal.TheVariants.{StoreFault, LogFault}
use Rattle.engine_calls.specs.declared.refusal.Refusal.TheVariants.{CommitUnsure, PoolFull}
use Rattle.engine_calls.specs.declared.refusal.Refusal.TheVariants.{NoSavepoint, NotLarger}
use Rattle.engine_calls.specs.declared.setup.PlayFault.{PlayFault}
use Rattle.engine_calls.specs.declared.setup.PlayFault.TheVariants as play

-- the refusal of the vault, as one of the engine
abbrev pub of_vault : CopyFault → Refusal
of_vault fault.OutOfMemory = OutOfMemory
of_vault fault.NoCopy = NoCopy
of_vault fault.CopyNotOpen = CopyNotOpen
of_vault fault.CopyNotComplete = CopyNotComplete
of_vault (fault.PagesLeft page) = PagesLeft page
of_vault fault.TooManyCopies = TooManyCopies

-- the name, and a number behind it, if there is one
abbrev pub line_with_any : FaultName → Option ℕ → List ℕ
line_with_any fault None = fault_line fault
line_with_any fault (Some number) = fault_line_with fault number

-- what is printed of a refusal
abbrev pub line_of : Refusal → List ℕ
line_of OutOfMemory = fault_line name.OutOfMemory
line_of NoTxn = fault_line name.NoTxn
line_of PageOut = fault_line name.PageOut
line_of SlotOut = fault_line name.SlotOut
line_of (SlotBusy txn) = fault_line_with name.SlotBusy txn
line_of TxnRolling = fault_line name.TxnRolling
line_of NotRolling = fault_line name.NotRolling
line_of LogFull = fault_line name.LogFull
line_of TooManyTxns = fault_line name.TooManyTxns
line_of NotDirty = fault_line name.NotDirty
line_of WriteBegun = fault_line name.WriteBegun
line_of NoWrite = fault_line name.NoWrite
line_of CkptOpen = fault_line name.CkptOpen
line_of NoCkpt = fault_line name.NoCkpt
line_of GatherLeft = fault_line name.GatherLeft
line_of NoMaster = fault_line name.NoMaster
line_of NoCopy = fault_line name.NoCopy
line_of CopyNotOpen = fault_line name.CopyNotOpen
line_of CopyNotComplete = fault_line name.CopyNotComplete
line_of PageDecided = fault_line name.PageDecided
line_of (PagesLeft page) = fault_line_with name.PagesLeft page
line_of StoreFault = fault_line name.StoreFault
line_of LogFault = fault_line name.LogFault
line_of PoolFull = fault_line name.PoolFull
line_of TooManyCopies = fault_line name.TooManyCopies
line_of NoSavepoint = fault_line name.NoSavepoint
line_of (NotLarger present) = fault_line_with name.NotLarger present
line_of (CommitUnsure lsn) = fault_line_with name.CommitUnsure lsn

-- what is printed where an engine cannot be made
abbrev pub line_of_fault : PlayFault → List ℕ
line_of_fault play.OutOfMemory = line_of OutOfMemory
line_of_fault play.LogFault = line_of LogFault
