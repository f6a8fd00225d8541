-- What is printed of why a transaction was not committed.
use Rattle.std.specs.Prelude.{ℕ, ◌++◌, List, Option, Some, codes}
use Rattle.std.specs.Fmt.{◌++?◌, decimal}
use Rattle.page_core.specs.FaultName.{fault_line_with}
use Rattle.page_core.specs.declared.fault_name.FaultName.TheVariants as name
use Rattle.engine_calls.specs.Refusal.{line_of}
use Rattle.imgcopy_engine.specs.declared.stop.NotDone.{NotDone}
use Rattle.imgcopy_engine.specs.declared.stop.NotDone.TheVariants.{Left, NotBegun, Stopped, Unsure}
use Rattle.imgcopy_engine.specs.declared.stop.Stop.{Stop}
use Rattle.imgcopy_engine.specs.declared.stop.Stop.TheVariants.{Own, Refused}

-- why the work of a transaction ended: its own reason has a text of its own
abbrev pub text_of_stop : {E : Type 0} → (E → Option (List ℕ)) → Stop E → Option (List ℕ)
text_of_stop own (Refused why) = Some (line_of why)
text_of_stop own (Own why) = own why

-- why it is not known to be committed
abbrev pub text_of : {E : Type 0} → (E → Option (List ℕ)) → NotDone E → Option (List ℕ)
text_of own (NotBegun why) = Some (codes "not begun: " ++ line_of why)
text_of own (Stopped why) = Some (codes "taken back: ") ++? text_of_stop own why
text_of own (Unsure lsn) = Some (fault_line_with name.CommitUnsure lsn)
text_of own (Left txn why) =
    Some (codes "transaction " ++ decimal txn ++ (codes " is still open: " ++ line_of why))
