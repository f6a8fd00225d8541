-- An image copy: what it is of, and what it has decided of each page.
use Rattle.std.specs.Prelude.{ℕ, ◌≡◌, List, length, replicate}
use Rattle.std.specs.Prelude.{slice_set, nat_lt, if◌then◌else◌}
use Rattle.page_core.specs.declared.page.Page.{Page}
use Rattle.page_decisions.specs.Decisions.{PageDecision, undecided, taken, kept, decision_at}
use Rattle.page_decisions.specs.Decisions.{AreDecidedBelow, AreInPlace}
use Rattle.copy_vault.specs.declared.copy_id.CopyKind.{CopyKind}
use Rattle.copy_vault.specs.declared.copy_id.CopyKind.TheVariants.{Full}
use Rattle.copy_vault.specs.declared.copy_id.Decision.{Decision}
use Rattle.copy_vault.specs.declared.copy_id.Decision.TheVariants.{Taken, Kept}

-- an image copy: its id and kind, the begin LSN and the redo point of the checkpoint that was noted
-- when it began, and what is decided of each page
pub record CopyView : Type 0 where
  pub id : ℕ
  pub kind : CopyKind
  pub begin : ℕ
  pub redo : ℕ
  pub pages : List PageDecision

-- a copy that begins: nothing is decided of so many pages
abbrev pub new_copy : ℕ → CopyKind → ℕ → ℕ → ℕ → CopyView
new_copy id kind pages begin redo = record {
  id = id;
  kind = kind;
  begin = begin;
  redo = redo;
  pages = replicate pages undecided;
}

-- a stored page is taken where its LSN is at least the parent's redo point; in a full copy 0 stands
-- for that point
abbrev pub answer_of : ℕ → Page → Decision
answer_of since page = if nat_lt page.lsn since then Kept else Taken

-- what is decided of a page by an answer
abbrev pub decided_by : Decision → Page → PageDecision
decided_by Taken page = taken page
decided_by Kept page = kept

-- the copy once a page is decided
abbrev pub with_decision : CopyView → ℕ → PageDecision → CopyView
with_decision copy p decision = record copy { pages = slice_set copy.pages p decision }

-- a full copy, which has no parent, keeps no page
abbrev pub KeepsOfParent : CopyKind → List PageDecision → Type 0
KeepsOfParent kind pages = kind ≡ Full → (p : ℕ) → ¬ (decision_at pages p ≡ kept)

-- what is decided of the pages makes a copy complete: something of each page, each taken page
-- stands at its number, and a full copy took every page
pub record IsComplete (kind : CopyKind) (pages : List PageDecision) : Type 0 where
  pub decided : AreDecidedBelow (length pages) pages
  pub in_place : AreInPlace pages
  pub keeps : KeepsOfParent kind pages
