-- What is printed where the last restore of a script came to no end.
use Rattle.std.specs.Prelude.{ℕ, List}
use Rattle.page_core.specs.FaultName.{fault_line, fault_line_with}
use Rattle.page_core.specs.declared.fault_name.FaultName.TheVariants as name
use Rattle.media_restore.specs.Fault as restore
use Rattle.script_run.specs.declared.finish_fault.FinishFault.{FinishFault}
use Rattle.script_run.specs.declared.finish_fault.FinishFault.TheVariants.{OutOfMemory, Refused}
use Rattle.script_run.specs.declared.finish_fault.FinishFault.TheVariants.{WriteFault}

abbrev pub line_of : FinishFault → List ℕ
line_of OutOfMemory = fault_line name.OutOfMemory
line_of (Refused why) = restore.line_of why
line_of (WriteFault done) = fault_line_with name.WriteFault done
