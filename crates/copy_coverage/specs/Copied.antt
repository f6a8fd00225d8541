-- What the image copies of a volume have of its log, and what a chain of them has.
use Rattle.std.specs.Prelude.{ℕ, ◌≡◌, ◌<◌, ◌≤◌, List, [], ◌∷◌, length, reverse, slice_index_or}
use Rattle.std.specs.Prelude.{Option, Some, None}
use Rattle.page_core.specs.declared.page.Page.{Page}
use Rattle.log_records.specs.declared.record.Record.{Record}
use Rattle.log_records.specs.Coverage.{Covers, resume}
use Rattle.log_records.specs.Image.{image}
use Rattle.log_records.specs.Log.{Log, page_count_below}
use Rattle.log_records.specs.Record.{IsLsn}
use Rattle.copy_vault.specs.declared.copy_id.CopyKind.{CopyKind}
use Rattle.copy_vault.specs.declared.copy_id.CopyKind.TheVariants.{Full, Inc}
use Rattle.copy_vault.specs.declared.copy_id.TheConstants.{MAX_COPIES}
use Rattle.copy_vault.specs.Chain.{content}
use Rattle.page_decisions.specs.Decisions.{PageDecision, decision_at, undecided}
use Rattle.copy_vault.specs.Copy.{CopyView}
use Rattle.page_decisions.specs.Decisions.{AreDecidedBelow, AreInPlace}
use Rattle.copy_vault.specs.Copy.{KeepsOfParent}
use Rattle.copy_vault.specs.Vault.{CopyState, HasParent, reading, complete, dropped, state_of}

-- the copies that one of this kind stands on, the last one first: its parent, the parent of that
-- one, and so on
abbrev pub StandsOn : List CopyState → CopyKind → List CopyView → Type 0
StandsOn copies Full older = older ≡ []
StandsOn copies (Inc parent) [] = ⊥
StandsOn copies (Inc parent) (copy ∷ older) =
    (state_of copies parent ≡ complete copy) × StandsOn copies copy.kind older

-- a copy that is there, complete or not
abbrev pub copy_in : CopyState → Option CopyView
copy_in (reading copy) = Some copy
copy_in (complete copy) = Some copy
copy_in dropped = None

-- a page of a copy lacks nothing below its redo point, and shows no change that is not forced
pub record IsCovered (rs : List Record) (forced_end redo number : ℕ) (page : Page) : Type 0 where
  pub covers : Covers rs number page redo
  pub stable : page.lsn < forced_end

-- where a checkpoint may begin, and where redo of it
pub record IsPoint (begin redo : ℕ) : Type 0 where
  pub begun : IsLsn begin
  pub redone : IsLsn redo
  pub order : redo ≤ begin

-- a copy of the whole volume as it was when the copy began, of this id; it notes a checkpoint whose
-- begin is forced, and its parent was there before it; a page that it took stands at its number,
-- and a full copy keeps none
pub record IsCopyOf (log : Log) (forced_end : ℕ) (copies : List CopyState) (id : ℕ)
    (copy : CopyView) : Type 0 where
  pub named : copy.id ≡ id
  pub noted : IsPoint copy.begin copy.redo
  pub early : copy.begin < forced_end
  pub whole : length copy.pages ≡ page_count_below log copy.begin
  pub parent : HasParent copies id copy.kind
  pub in_place : AreInPlace copy.pages
  pub keeps : KeepsOfParent copy.kind copy.pages

-- of each page of a complete copy something is decided: so the copy took it, or keeps what its
-- parent has; a full copy took each
abbrev pub AreDecided : List CopyState → Type 0
AreDecided copies = (id : ℕ) (copy : CopyView) → state_of copies id ≡ complete copy
    → AreDecidedBelow (length copy.pages) copy.pages

-- a copy has nothing to decide of a page any more: something is decided of it, or the volume did
-- not have it yet when the copy began
abbrev pub IsDecidedIn : List PageDecision → ℕ → Type 0
IsDecidedIn pages p = p < length pages → ¬ (decision_at pages p ≡ undecided)

-- the copies of a volume, beside its log and its stored pages: a complete copy has decided of each
-- page; while a copy is being read, each stored page lacks nothing below its redo point; and so
-- does each page of the chain that ends with it, once it has nothing to decide of the page
pub record AreCopied (log : Log) (forced_end : ℕ) (stored : List Page)
    (copies : List CopyState) : Type 0 where
  pub few : length copies ≤ MAX_COPIES
  pub each : (id : ℕ) (copy : CopyView) → copy_in (state_of copies id) ≡ Some copy
      → IsCopyOf log forced_end copies id copy
  pub decided : AreDecided copies
  pub read : (id : ℕ) (copy : CopyView) → state_of copies id ≡ reading copy
      → (p : ℕ) (d : Page) → p < length stored
      → Covers log.records p (slice_index_or stored p d) copy.redo
  pub covered : (id : ℕ) (copy : CopyView) (older : List CopyView)
      → copy_in (state_of copies id) ≡ Some copy → StandsOn copies copy.kind older
      → (p : ℕ) → IsDecidedIn copy.pages p
      → IsCovered log.records forced_end copy.redo p (content (reverse (copy ∷ older)) p)

-- of a log and what of it is forced: each complete copy is of the whole volume and has decided of
-- each page, and no page of the chain that ends with it lacks a change below its redo point
pub record AreRestorable (log : Log) (forced_end : ℕ) (copies : List CopyState) : Type 0 where
  pub few : length copies ≤ MAX_COPIES
  pub each : (id : ℕ) (copy : CopyView) → state_of copies id ≡ complete copy
      → IsCopyOf log forced_end copies id copy
  pub decided : AreDecided copies
  pub covered : (id : ℕ) (copy : CopyView) (older : List CopyView)
      → state_of copies id ≡ complete copy → StandsOn copies copy.kind older → (p : ℕ)
      → IsCovered log.records forced_end copy.redo p (content (reverse (copy ∷ older)) p)

-- these copies are those that a complete one stands on, and from what they all have of a page, redo
-- of a kept log from the copy's redo point on makes the page that the whole kept log makes
pub record Restores (copies : List CopyState) (copy : CopyView) (kept : List Record) : Type 0 where
  pub older : List CopyView
  pub stands : StandsOn copies copy.kind older
  pub restored : (p : ℕ)
      → resume (content (reverse (copy ∷ older)) p) kept copy.redo ≡ image kept p
