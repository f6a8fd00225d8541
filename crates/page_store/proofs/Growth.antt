-- A store that has grown.
use Rattle.std.proofs.Common.{ℕ, ◌≡◌, ◌-◌, ◌++◌, List, None, length, refl}
use Rattle.std.specs.Prelude.{Option, replicate}
use Rattle.page_core.specs.declared.page.Page.{Page}
use Rattle.page_core.specs.Volume.{grown_to}
use Rattle.page_store.specs.FaultyStore.{Faulty, after_growth}

-- its pages have grown, and as many more are not damaged
pub grown-both : (old : Faulty) (count : ℕ) {pages : List Page} {damaged_from : List (Option ℕ)}
    → pages ≡ grown_to count old.pages
    → damaged_from ≡ old.damaged_from ++ replicate (count - length old.pages) None
    → record old { pages = pages; damaged_from = damaged_from } ≡ after_growth old count
grown-both old count grown added = rw (grown, added) refl
