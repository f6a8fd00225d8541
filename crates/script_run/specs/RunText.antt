-- What is printed where a script is not played, or its replies are not written.
use Rattle.std.specs.Prelude.{ℕ, List}
use Rattle.page_core.specs.FaultName.{fault_line, fault_line_with}
use Rattle.page_core.specs.declared.fault_name.FaultName.TheVariants as name
use Rattle.event_script.specs.Fault.{line_of_fault}
use Rattle.script_run.specs.declared.run_fault.ScriptRunFault.{ScriptRunFault}
use Rattle.script_run.specs.declared.run_fault.ScriptRunFault.TheVariants.{Script, OutOfMemory}
use Rattle.script_run.specs.declared.run_fault.ScriptRunFault.TheVariants.{WriteFault}

abbrev pub line_of : ScriptRunFault → List ℕ
line_of (Script fault) = line_of_fault fault
line_of OutOfMemory = fault_line name.OutOfMemory
line_of (WriteFault done) = fault_line_with name.WriteFault done
