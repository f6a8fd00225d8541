-- Inputs that are no text.
use Rattle.std.specs.Prelude.{◌<◌, ℕ, List, length, Option, IfSome}
use Rattle.std.specs.Io.KnownBytes.{Consumes}
use Rattle.std.proofs.Common.{arith}
use Rattle.std.proofs.lemmas.List.{length-append}
use Rattle.page_core.proofs.Public.{of_input}
use Rattle.event_script.specs.declared.fault.ScriptFault.TheVariants.{Input}
use Rattle.event_script.specs.Read.{Refuses}

-- what was read is too long
pub too_long : (old new : Option (List ℕ)) (given : List ℕ) → Consumes old new given → 16777216 < length given
    → IfSome old (λ input. Refuses input Input)
too_long old new given taken long = of_input old new given (λ input. Refuses input Input) taken
    (λ rest none. λ text. omega (arith, long, text.short, length-append given rest))
