-- Copies of an older life that a vault takes.
use Rattle.std.specs.Prelude.{◌≡◌, ◌-◌, ◌⊎◌, Bool, false, List, [], ◌∷◌, ◌++◌, length, replicate}
use Rattle.std.specs.Prelude.{nat_le, nat_lt, Option, Some, None, is_none, if◌then◌else◌}
use Rattle.copy_vault.specs.declared.add_fault.AddFault.{AddFault}
use Rattle.copy_vault.specs.declared.add_fault.AddFault.TheVariants.{IdGiven, NoParent}
use Rattle.copy_vault.specs.declared.add_fault.AddFault.TheVariants.{OutOfMemory, TooManyCopies}
use Rattle.copy_vault.specs.declared.copy_id.CopyKind.{CopyKind}
use Rattle.copy_vault.specs.declared.copy_id.CopyKind.TheVariants.{Full, Inc}
use Rattle.copy_vault.specs.declared.copy_id.TheConstants.{MAX_COPIES}
use Rattle.copy_vault.specs.Copy.{CopyView}
use Rattle.copy_vault.specs.Vault.{CopyState, complete, complete_of, dropped, state_of}

-- the copy comes behind the others, and the ids before it that were not given count as dropped
abbrev pub with_copy : List CopyState → CopyView → List CopyState
with_copy copies copy =
    copies ++ replicate (copy.id - 1 - length copies) dropped ++ complete copy ∷ []

-- an incremental copy has no complete parent among these
abbrev pub lacks_parent : List CopyState → CopyKind → Bool
lacks_parent copies Full = false
lacks_parent copies (Inc parent) = is_none (complete_of (state_of copies parent))

-- a copy is refused where its id or a later one was given, is above 1,024, or has no parent
abbrev pub add_refusal : List CopyState → CopyView → Option AddFault
add_refusal copies copy =
    if nat_le copy.id (length copies) then Some IdGiven
    else if nat_lt MAX_COPIES copy.id then Some TooManyCopies
    else if lacks_parent copies copy.kind then Some NoParent
    else None

-- it is refused for this, or is not and memory ran out
abbrev pub AddRefuses : Option AddFault → AddFault → Type 0
AddRefuses refusal fault = (refusal ≡ Some fault) ⊎ ((refusal ≡ None) × (fault ≡ OutOfMemory))
