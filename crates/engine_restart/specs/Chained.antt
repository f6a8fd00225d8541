-- The chain that a copy stands on, as it is found.
use Rattle.std.specs.Prelude.{List, ◌≡◌, [], Option, Some, None}
use Rattle.copy_vault.specs.declared.add_fault.AddFault.TheVariants as vault
use Rattle.copy_vault.specs.declared.copy_id.CopyKind.{CopyKind}
use Rattle.copy_vault.specs.Copy.{CopyView}
use Rattle.copy_vault.specs.Vault.{CopyState}
use Rattle.engine_restart.specs.declared.add_fault.AddCopyFault.{AddCopyFault}
use Rattle.engine_restart.specs.declared.add_fault.AddCopyFault.TheVariants.{OfOtherLog}
use Rattle.engine_restart.specs.declared.add_fault.AddCopyFault.TheVariants.{OutOfMemory}
use Rattle.engine_restart.specs.declared.add_fault.AddCopyFault.TheVariants.{Refused, Unsound}
use Rattle.engine_restart.specs.Added.{LacksParent}

-- its members, and none where there is no chain
abbrev pub members : Option (List CopyView) → List CopyView
members (Some chain) = chain
members None = []

-- why there is none where one is asked for
abbrev pub IsNoChain : List CopyState → CopyKind → AddCopyFault → Type 0
IsNoChain copies kind OutOfMemory = Unit {0}
IsNoChain copies kind OfOtherLog = ⊥
IsNoChain copies kind (Unsound page) = ⊥
IsNoChain copies kind (Refused fault) = (fault ≡ vault.NoParent) × LacksParent copies kind
