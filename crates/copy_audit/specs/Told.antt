-- All unsound pages of a chain, and which of them are told.
use Rattle.std.specs.Prelude.{ℕ, zero, suc, ◌≡◌, ◌<◌, ◌⊎◌, ◌++◌, List, [], ◌∷◌, length, take}
use Rattle.std.specs.Prelude.{nat_lt}
use Rattle.std.specs.Prelude.{Option, slice_index, slice_index_or}
use Rattle.page_core.specs.declared.page.Page.{Page}
use Rattle.log_records.specs.declared.record.Record.{Record}
use Rattle.log_records.specs.Log.{Log, page_count}
use Rattle.copy_vault.specs.Chain.{IsChain}
use Rattle.copy_vault.specs.Copy.{CopyView}
use Rattle.copy_audit.specs.declared.all_pages.TheConstants.{MOST_PAGES}
use Rattle.copy_audit.specs.declared.all_pages.UnsoundPage.{UnsoundPage}
use Rattle.copy_audit.specs.declared.all_pages.UnsoundPages.{UnsoundPages}
use Rattle.copy_audit.specs.Audit.{AreOfArchives, IsOfLog, IsSoundAt}
use Rattle.copy_audit.specs.Rows.{IsFirstIn, IsSoundIn}

-- of the pages below a number these are not right, in page order: each page is right, or is the one
-- that is listed behind those below it
abbrev pub AreListed : (ℕ → Type 0) → (UnsoundPage → Type 0) → ℕ → List UnsoundPage → Type 0
AreListed IsRight IsWrong zero listed = listed ≡ []
AreListed IsRight IsWrong (suc page) listed =
    (IsRight page × AreListed IsRight IsWrong page listed)
    ⊎ ((it : UnsoundPage) × (before : List UnsoundPage) × (listed ≡ before ++ it ∷ [])
    × (it.page ≡ page) × IsWrong it × AreListed IsRight IsWrong page before)

-- the chain up to each member has this page sound
abbrev pub IsSoundPage : Log → List CopyView → ℕ → Type 0
IsSoundPage log copies page = (k : ℕ) → k < length copies → IsSoundAt log copies k page

-- the chain up to this copy has this page unsound, and up to each one before it sound
pub record IsUnsoundFrom (log : Log) (copies : List CopyView) (it : UnsoundPage) : Type 0 where
  pub at : ℕ
  pub there : at < length copies
  pub named : (d : CopyView) → it.copy ≡ (slice_index_or copies at d).id
  pub before : (k : ℕ) → k < at → IsSoundAt log copies k it.page
  pub unsound : ¬ IsSoundAt log copies at it.page

-- the first ones are told, at most 1,000, and whether there are more
pub record AreFirstOf (all : List UnsoundPage) (told : UnsoundPages) : Type 0 where
  pub first : told.pages.items ≡ take MOST_PAGES all
  pub more : told.has_more ≡ nat_lt MOST_PAGES (length all)

-- these are told of all unsound pages of the chain
pub record AreTold (log : Log) (copies : List CopyView) (told : UnsoundPages) : Type 0 where
  pub all : List UnsoundPage
  pub listed : AreListed (IsSoundPage log copies) (IsUnsoundFrom log copies)
      (page_count log) all
  pub first : AreFirstOf all told

-- the archives spell a chain of copies for the log, of which these are told
pub record IsTold (log : Log) (archives : List (Option (List ℕ))) (told : UnsoundPages)
    : Type 0 where
  pub copies : List CopyView
  pub of_archives : AreOfArchives archives log copies
  pub chain : IsChain copies
  pub all_told : AreTold log copies told

-- the bytes spell a log and a chain of copies for it, of which these are told
pub record AreToldOf (input : Option (List ℕ)) (archives : List (Option (List ℕ)))
    (told : UnsoundPages) : Type 0 where
  pub log : Log
  pub of_log : IsOfLog input log
  pub is_told : IsTold log archives told

-- ---- the same of rows

-- the page is sound in its row, up to each of so many members
abbrev pub IsSoundRow : List Record → List ℕ → ℕ → List (List (List Page)) → ℕ → Type 0
IsSoundRow rs points members given page =
    (k : ℕ) → k < members → IsSoundIn rs page (slice_index_or given page []) points k

-- it is not, first up to the member of this id
pub record IsUnsoundRow (rs : List Record) (points ids : List ℕ) (members : ℕ)
    (given : List (List (List Page))) (it : UnsoundPage) : Type 0 where
  pub member : ℕ
  pub first : IsFirstIn rs it.page (slice_index_or given it.page []) points members member
  pub named : it.copy ≡ slice_index ids member

-- of the first rows, so many, these are told
pub record HasTold (rs : List Record) (points ids : List ℕ) (members : ℕ)
    (given : List (List (List Page))) (number : ℕ) (told : UnsoundPages) : Type 0 where
  pub all : List UnsoundPage
  pub listed : AreListed (IsSoundRow rs points members given)
      (IsUnsoundRow rs points ids members given) number all
  pub first : AreFirstOf all told
