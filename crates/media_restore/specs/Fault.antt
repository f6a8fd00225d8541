-- What is printed of a fault of a restore.
use Rattle.std.specs.Prelude.{ℕ, List}
use Rattle.page_core.specs.FaultName.{fault_line, fault_line_with}
use Rattle.page_core.specs.declared.fault_name.FaultName.TheVariants as name
use Rattle.loser_undo.specs.Fault as undo
use Rattle.media_restore.specs.declared.fault.LoadFault.{LoadFault}
use Rattle.media_restore.specs.declared.fault.LoadFault.TheVariants as load
use Rattle.media_restore.specs.declared.fault.RedoFault.{RedoFault}
use Rattle.media_restore.specs.declared.fault.RedoFault.TheVariants as redo
use Rattle.media_restore.specs.declared.fault.Refused.{Refused}
use Rattle.media_restore.specs.declared.fault.Refused.TheVariants.{Load, Redo, Undo}

abbrev pub line_of_load : LoadFault → List ℕ
line_of_load load.OutOfMemory = fault_line name.OutOfMemory
line_of_load load.NoCopy = fault_line name.NoCopy
line_of_load load.CopyNotComplete = fault_line name.CopyNotComplete
line_of_load (load.CutTooShort forced) = fault_line_with name.CutTooShort forced

abbrev pub line_of_redo : RedoFault → List ℕ
line_of_redo redo.OutOfMemory = fault_line name.OutOfMemory

-- the line of the fault that refused it
abbrev pub line_of : Refused → List ℕ
line_of (Load fault) = line_of_load fault
line_of (Redo fault) = line_of_redo fault
line_of (Undo fault) = undo.line_of fault
