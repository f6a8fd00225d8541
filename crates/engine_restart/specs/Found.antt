-- The log in the bytes of a device's file.
use Rattle.std.specs.Prelude.{ℕ, ◌≡◌, List}
use Rattle.log_prefix.specs.declared.fault.FrontFault.{FrontFault}
use Rattle.log_prefix.specs.declared.fault.FrontFault.TheVariants as front
use Rattle.log_prefix.specs.Front.{HasNoFront}
use Rattle.log_records.specs.Log.{format_in}
use Rattle.page_core.specs.declared.fault_name.FaultName.TheVariants as name
use Rattle.page_core.specs.declared.format.Format.TheVariants.{First}
use Rattle.page_core.specs.FaultName.{fault_line}
use Rattle.engine_restart.specs.declared.found_fault.FoundFault.{FoundFault}
use Rattle.engine_restart.specs.declared.found_fault.FoundFault.TheVariants.{BadHeader, OldFormat}
use Rattle.engine_restart.specs.declared.found_fault.FoundFault.TheVariants.{OutOfMemory, ReadFault}

-- a fault of reading a front, as a restart reports it
abbrev pub of_front : FrontFault → FoundFault
of_front front.OutOfMemory = OutOfMemory
of_front front.BadHeader = BadHeader
of_front front.ReadFault = ReadFault

-- why bytes have no log to go on with: no front, or one of the first format; or it lies outside them
abbrev pub FindsNone : List ℕ → FoundFault → Type 0
FindsNone bytes OutOfMemory = Unit {0}
FindsNone bytes ReadFault = Unit {0}
FindsNone bytes BadHeader = HasNoFront bytes
FindsNone bytes OldFormat = format_in bytes ≡ First

-- what is printed of a fault
abbrev pub line_of : FoundFault → List ℕ
line_of OutOfMemory = fault_line name.OutOfMemory
line_of BadHeader = fault_line name.BadHeader
line_of OldFormat = fault_line name.BadHeader
line_of ReadFault = fault_line name.ReadFault
