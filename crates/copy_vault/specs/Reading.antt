-- An image copy that is being read.
use Rattle.std.specs.Prelude.{ℕ, ◌≡◌, ◌≤◌, Bool, List, length}
use Rattle.copy_vault.specs.declared.copy_id.CopyKind.{CopyKind}
use Rattle.copy_vault.specs.declared.copy_id.CopyKind.TheVariants.{Full}
use Rattle.page_decisions.specs.Decisions.{PageDecision, AreDecidedBelow, AreInPlace}
use Rattle.copy_vault.specs.Copy.{CopyView}
use Rattle.copy_vault.specs.Copy.{KeepsOfParent}

-- what is read so far, the LSN from which on a page is taken, and whether there is room for a page
pub record ReadingView : Type 0 where
  pub copy : CopyView
  pub since : ℕ
  pub has_room : Bool

-- a full copy takes every page, and of every page below `next` something is decided
pub record IsReading (kind : CopyKind) (pages : List PageDecision) (since next : ℕ) : Type 0 where
  pub within : next ≤ length pages
  pub decided : AreDecidedBelow next pages
  pub in_place : AreInPlace pages
  pub keeps : KeepsOfParent kind pages
  pub since_start : kind ≡ Full → since ≡ 0
