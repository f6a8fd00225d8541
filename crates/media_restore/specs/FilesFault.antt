-- The faults of a restore from files: whence they come, and what is printed of them.
use Rattle.std.specs.Prelude.{ℕ, List}
use Rattle.page_core.specs.FaultName.{fault_line, fault_line_with}
use Rattle.page_core.specs.declared.fault_name.FaultName.TheVariants as name
use Rattle.log_store.specs.declared.fault.LogReadFault.{LogReadFault}
use Rattle.log_store.specs.declared.fault.LogReadFault.TheVariants as log
use Rattle.copy_vault.specs.declared.chain_read_fault.ChainReadFault.{ChainReadFault}
use Rattle.copy_vault.specs.declared.chain_read_fault.ChainReadFault.TheVariants as chain
use Rattle.media_restore.specs.declared.files_fault.RestoreFault.{RestoreFault}
use Rattle.media_restore.specs.declared.files_fault.RestoreFault.TheVariants.{OutOfMemory, LogFull}
use Rattle.media_restore.specs.declared.files_fault.RestoreFault.TheVariants.{WriteFault, BadHeader}
use Rattle.media_restore.specs.declared.files_fault.RestoreFault.TheVariants.{BadRecord, Torn}
use Rattle.media_restore.specs.declared.files_fault.RestoreFault.TheVariants.{ReadFault, TooLong}
use Rattle.media_restore.specs.declared.files_fault.RestoreFault.TheVariants.{BadChain, BadArchive}
use Rattle.media_restore.specs.declared.files_fault.RestoreFault.TheVariants.{ChainBroken}
use Rattle.media_restore.specs.declared.files_fault.RestoreFault.TheVariants.{CountDiffers}
use Rattle.media_restore.specs.declared.files_fault.RestoreFault.TheVariants.{RedoBeyondLog}
use Rattle.media_restore.specs.declared.files_fault.RestoreFault.TheVariants.{PageBeyondLog}

-- a fault of reading a log, as a restore reports it
abbrev pub of_log : LogReadFault → RestoreFault
of_log log.OutOfMemory = OutOfMemory
of_log log.BadHeader = BadHeader
of_log (log.BadRecord at) = BadRecord at
of_log (log.BadChain at) = BadChain at
of_log (log.Torn at) = Torn at
of_log log.ReadFault = ReadFault
of_log log.TooLong = TooLong

-- and one of reading the archives of a chain
abbrev pub of_chain : ChainReadFault → RestoreFault
of_chain chain.OutOfMemory = OutOfMemory
of_chain (chain.BadArchive at) = BadArchive at
of_chain (chain.ChainBroken copy) = ChainBroken copy
of_chain chain.CountDiffers = CountDiffers
of_chain chain.ReadFault = ReadFault
of_chain chain.RedoBeyondLog = RedoBeyondLog
of_chain (chain.PageBeyondLog page) = PageBeyondLog page

-- what is printed of a fault
abbrev pub line_of : RestoreFault → List ℕ
line_of OutOfMemory = fault_line name.OutOfMemory
line_of LogFull = fault_line name.LogFull
line_of (WriteFault done) = fault_line_with name.WriteFault done
line_of BadHeader = fault_line name.BadHeader
line_of (BadRecord at) = fault_line_with name.BadRecord at
line_of (Torn at) = fault_line_with name.Torn at
line_of ReadFault = fault_line name.ReadFault
line_of TooLong = fault_line name.TooLong
line_of (BadChain at) = fault_line_with name.BadChain at
line_of (BadArchive at) = fault_line_with name.BadArchive at
line_of (ChainBroken copy) = fault_line_with name.ChainBroken copy
line_of CountDiffers = fault_line name.CountDiffers
line_of RedoBeyondLog = fault_line name.RedoBeyondLog
line_of (PageBeyondLog page) = fault_line_with name.PageBeyondLog page
