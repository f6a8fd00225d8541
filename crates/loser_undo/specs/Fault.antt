-- What is printed of a fault of undo.
use Rattle.std.specs.Prelude.{ℕ, List}
use Rattle.page_core.specs.FaultName.{fault_line}
use Rattle.page_core.specs.declared.fault_name.FaultName.TheVariants as name
use Rattle.loser_undo.specs.declared.fault.UndoFault.{UndoFault}
use Rattle.loser_undo.specs.declared.fault.UndoFault.TheVariants.{LogFull, OutOfMemory}

abbrev pub line_of : UndoFault → List ℕ
line_of LogFull = fault_line name.LogFull
line_of OutOfMemory = fault_line name.OutOfMemory
