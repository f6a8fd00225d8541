-- What is printed where a script cannot be read.
use Rattle.std.specs.Prelude.{ℕ, ◌++◌, List, codes}
use Rattle.std.specs.Fmt.{decimal}
use Rattle.page_core.specs.FaultName.{fault_line}
use Rattle.page_core.specs.declared.fault_name.FaultName.TheVariants as name
use Rattle.event_script.specs.declared.fault.ScriptFault.{ScriptFault}
use Rattle.event_script.specs.declared.fault.ScriptFault.TheVariants.{OutOfMemory, Input, ReadFault}
use Rattle.event_script.specs.declared.fault.ScriptFault.TheVariants.{BadLine}

abbrev pub line_of_fault : ScriptFault → List ℕ
line_of_fault OutOfMemory = fault_line name.OutOfMemory
line_of_fault Input = codes "imgcopy: input"
line_of_fault ReadFault = codes "imgcopy: input"
line_of_fault (BadLine number why) = codes "imgcopy: line " ++ decimal number
