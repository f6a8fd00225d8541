-- The copies that are taken up by a database that is opened again.
use Rattle.std.specs.Prelude.{◌≡◌, ◌++◌, ◌∷◌, [], List}
use Rattle.log_records.specs.Log.{Log}
use Rattle.copy_vault.specs.Copy.{CopyView}
use Rattle.copy_vault.specs.Added.{with_copy}
use Rattle.copy_vault.specs.Vault.{CopyState}
use Rattle.copy_vault.specs.declared.add_fault.AddFault.TheVariants as vault
use Rattle.engine_restart.specs.Added.{IsNotAdded, MayAdd}
use Rattle.engine_restart.specs.declared.add_fault.AddCopyFault.{AddCopyFault}
use Rattle.engine_restart.specs.declared.add_fault.AddCopyFault.TheVariants as add
use Rattle.imgcopy_engine.specs.declared.taking_up.RefusedCopy.{RefusedCopy}

-- memory ran out
abbrev pub IsOfMemory : AddCopyFault → Type 0
IsOfMemory add.OutOfMemory = Unit {0}
IsOfMemory add.OfOtherLog = ⊥
IsOfMemory (add.Unsound page) = ⊥
IsOfMemory (add.Refused vault.OutOfMemory) = Unit {0}
IsOfMemory (add.Refused other) = ⊥

-- the log, or the copies so far, do not allow a copy, and this is told of it
pub record IsRefused (log : Log) (copy : CopyView) (copies : List CopyState) (told : RefusedCopy)
    : Type 0 where
  pub id : told.id ≡ copy.id
  pub no_want : ¬ IsOfMemory told.why
  pub why : IsNotAdded log copies copy told.why

-- a copy is taken up behind these, and nothing is told; or it is refused, and that is told
pub data IsJudged (log : Log) (copy : CopyView) (copies : List CopyState) (refused : List RefusedCopy)
    (now : List CopyState) (told : List RefusedCopy) : Type 0 where
  taken : MayAdd log copies copy → now ≡ with_copy copies copy → told ≡ refused
      → IsJudged log copy copies refused now told
  left : (one : RefusedCopy) → IsRefused log copy copies one → now ≡ copies
      → told ≡ refused ++ one ∷ [] → IsJudged log copy copies refused now told

-- one after another, each is taken up or refused, also behind one that was refused
pub data TakesUp (log : Log) : List CopyView → List RefusedCopy → List CopyState → Type 0 where
  none_left : TakesUp log [] [] []
  one_more : (given : List CopyView) (refused told : List RefusedCopy) (copies now : List CopyState)
      (copy : CopyView) → TakesUp log given refused copies
      → IsJudged log copy copies refused now told → TakesUp log (given ++ copy ∷ []) told now
