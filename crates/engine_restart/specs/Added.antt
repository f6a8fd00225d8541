-- Copies of an older life, audited against the log before they are taken up.
use Rattle.std.specs.Prelude.{ℕ, ◌≡◌, ◌<◌, ◌++◌, ◌⊎◌, List, [], ◌∷◌, length}
use Rattle.std.specs.Prelude.{Option, None, Some, codes}
use Rattle.std.specs.Fmt.{decimal}
use Rattle.page_core.specs.FaultName.{fault_line}
use Rattle.page_core.specs.declared.fault_name.FaultName.TheVariants as name
use Rattle.log_records.specs.Coverage.{Covers}
use Rattle.log_records.specs.Log.{Log, lsn_of, page_count, page_count_below}
use Rattle.log_rules.specs.Checkpoint.{IsCompleteCheckpoint}
use Rattle.copy_vault.specs.declared.add_fault.AddFault.{AddFault}
use Rattle.copy_vault.specs.declared.add_fault.AddFault.TheVariants as vault
use Rattle.copy_vault.specs.Added.{add_refusal}
use Rattle.copy_vault.specs.declared.copy_id.CopyKind.{CopyKind}
use Rattle.copy_vault.specs.declared.copy_id.CopyKind.TheVariants.{Full, Inc}
use Rattle.copy_vault.specs.Chain.{IsChain, content}
use Rattle.copy_vault.specs.ChainOf.{IsChainOf}
use Rattle.copy_vault.specs.Copy.{CopyView}
use Rattle.copy_vault.specs.Vault.{CopyState, complete, state_of}
use Rattle.copy_coverage.specs.Copied.{IsPoint}
use Rattle.engine_restart.specs.declared.add_fault.AddCopyFault.{AddCopyFault}
use Rattle.engine_restart.specs.declared.add_fault.AddCopyFault.TheVariants.{OfOtherLog}
use Rattle.engine_restart.specs.declared.add_fault.AddCopyFault.TheVariants.{OutOfMemory}
use Rattle.engine_restart.specs.declared.add_fault.AddCopyFault.TheVariants.{Refused, Unsound}

-- some checkpoint of the log is complete
abbrev pub IsCheckpointed : Log → Type 0
IsCheckpointed log = (begin end : ℕ) × IsCompleteCheckpoint log.records begin end

-- the copy names a place in the log, has as many pages as the volume had there, and some checkpoint
-- of the log is complete
pub record BeginsIn (log : Log) (copy : CopyView) : Type 0 where
  pub noted : IsPoint copy.begin copy.redo
  pub within : copy.begin < lsn_of (length log.records)
  pub whole : length copy.pages ≡ page_count_below log copy.begin
  pub complete : IsCheckpointed log

-- the copies that a copy stands on, the first one first: none for a full one, and for an incremental
-- one the chain that ends with its parent
abbrev pub StandsBehind : List CopyState → CopyKind → List CopyView → Type 0
StandsBehind copies Full older = older ≡ []
StandsBehind copies (Inc parent) older = IsChain older × IsChainOf copies parent older

-- it does not, since its parent is not complete
abbrev pub LacksParent : List CopyState → CopyKind → Type 0
LacksParent copies Full = ⊥
LacksParent copies (Inc parent) = (copy : CopyView) → ¬ (state_of copies parent ≡ complete copy)

-- of the chain that ends with the copy this page is of the log's past, and lacks nothing below the
-- copy's redo point
abbrev pub IsSoundAt : Log → List CopyView → CopyView → ℕ → Type 0
IsSoundAt log older copy p = Covers log.records p (content (older ++ copy ∷ []) p) copy.redo

-- so is each page below this number
abbrev pub AreSoundBelow : Log → List CopyView → CopyView → ℕ → Type 0
AreSoundBelow log older copy count = (p : ℕ) → p < count → IsSoundAt log older copy p

-- the copy is one of this log, behind these copies
pub record MayAdd (log : Log) (copies : List CopyState) (copy : CopyView) : Type 0 where
  pub begins : BeginsIn log copy
  pub older : List CopyView
  pub behind : StandsBehind copies copy.kind older
  pub sound : AreSoundBelow log older copy (page_count log)

-- this is the least page of which that is not so
pub record IsLeastIn (log : Log) (older : List CopyView) (copy : CopyView) (page : ℕ)
    : Type 0 where
  pub below : AreSoundBelow log older copy page
  pub within : page < page_count log
  pub unsound : ¬ IsSoundAt log older copy page

-- of the chain that ends with the copy
pub record IsLeastUnsound (log : Log) (copies : List CopyState) (copy : CopyView) (page : ℕ)
    : Type 0 where
  pub older : List CopyView
  pub behind : StandsBehind copies copy.kind older
  pub least : IsLeastIn log older copy page

-- why a copy is none of this log
abbrev pub IsNotOf : Log → List CopyState → CopyView → AddCopyFault → Type 0
IsNotOf log copies copy OutOfMemory = Unit {0}
IsNotOf log copies copy OfOtherLog = ¬ BeginsIn log copy
IsNotOf log copies copy (Unsound page) = BeginsIn log copy × IsLeastUnsound log copies copy page
IsNotOf log copies copy (Refused fault) =
    BeginsIn log copy × (fault ≡ vault.NoParent) × LacksParent copies copy.kind

-- why it is not added: it is none of this log; or it is one, and the vault refuses it
abbrev pub IsNotAdded : Log → List CopyState → CopyView → AddCopyFault → Type 0
IsNotAdded log copies copy fault = IsNotOf log copies copy fault
    ⊎ (MayAdd log copies copy
    × ((why : AddFault) × (fault ≡ Refused why) × (add_refusal copies copy ≡ Some why)))

-- what is printed of it. What is said of a vault's refusal is told by no clause
abbrev pub text_of : AddCopyFault → Option (List ℕ)
text_of OutOfMemory = Some (fault_line name.OutOfMemory)
text_of OfOtherLog = Some (codes "the copy is none of this log")
text_of (Unsound page) = Some (codes "page " ++ decimal page ++ codes " is not what the log says")
text_of (Refused fault) = None
