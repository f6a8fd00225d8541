-- A store in memory that fails where it is told to.
use Rattle.std.specs.Prelude.{ℕ, ◌≡◌, ◌+◌, ◌-◌, ◌^◌, ◌⊎◌, ◌↔◌, nat_le, Bool, true, false, List}
use Rattle.std.specs.Prelude.{◌++◌, length, replicate}
use Rattle.std.specs.Prelude.{Option, None, Some, slice_get, slice_index_or, if◌then◌else◌}
use Rattle.std.specs.Prelude.{slice_set, Result, IsErr, IfOk, OnOk, OnErr}
use Rattle.std.specs.Option.{option_map_or}
use Rattle.page_core.specs.declared.page.Page.{Page}
use Rattle.page_core.specs.Volume.{grown_to}
use Rattle.page_store.specs.declared.store.StoreFault.{StoreFault}

-- calls are counted, up to the greatest number of 64 bits; the call that fails is counted from the
-- next one on as 1, and at 0 none is to fail; a write that fails late leaves the new page, and a
-- growth the new pages; of each page it is known after how many calls it is damaged, if it is to be
pub record Faulty : Type 0 where
  pub pages : List Page
  pub calls : ℕ
  pub calls_to_fault : ℕ
  pub is_late : Bool
  pub damaged_from : List (Option ℕ)
  pub failures : ℕ

-- the page is damaged: so many calls were made
abbrev pub is_damaged : Faulty → ℕ → Bool
is_damaged it number =
    option_map_or (λ k. nat_le k it.calls) (slice_index_or it.damaged_from number None) false

-- a read fails: it is the call that is to fail, or the page is damaged
abbrev pub ReadFails : Faulty → ℕ → Type 0
ReadFails old number = (old.calls_to_fault ≡ 1) ⊎ (is_damaged old number ≡ true)

-- one call more was counted
abbrev pub after_call : Faulty → Faulty
after_call old = record old {
  calls = if nat_le (2 ^ 64 - 1) old.calls then old.calls else old.calls + 1;
  calls_to_fault = old.calls_to_fault - 1;
}

-- one failure more was counted
abbrev pub after_failure : Faulty → Faulty
after_failure old = record old { failures = old.failures + 1 }

-- a call that stored the page, which is not damaged any more if it was
abbrev pub after_write : Faulty → ℕ → Page → Faulty
after_write old number page = record (after_call old) {
  pages = slice_set old.pages number page;
  damaged_from = if is_damaged old number
      then slice_set old.damaged_from number None else old.damaged_from;
}

-- a write that fails leaves the old page, or late the new one
abbrev pub after_failed_write : Faulty → ℕ → Page → Faulty
after_failed_write old number page = record old {
  pages = if old.is_late then slice_set old.pages number page else old.pages;
}

-- the volume has grown to so many pages; no page that was added is damaged
abbrev pub after_growth : Faulty → ℕ → Faulty
after_growth old count = record old {
  pages = grown_to count old.pages;
  damaged_from = old.damaged_from ++ replicate (count - length old.pages) None;
}

-- a growth that fails leaves the pages that there were, or late those that it was to make
abbrev pub after_failed_growth : Faulty → ℕ → Faulty
after_failed_growth old count = if old.is_late then after_growth old count else old

-- what comes of a read
pub record FaultyReads (old : Faulty) (number : ℕ) (result : Result Page StoreFault) (new : Faulty)
    : Type 0 where
  pub fails : IsErr result ↔ ReadFails old number
  pub found : IfOk result (λ page. slice_get old.pages number ≡ Some page)
  pub ok : OnOk result (new ≡ after_call old)
  pub err : OnErr result (new ≡ after_failure (after_call old))

-- what comes of a write: it fails where it is the call that is to
pub record FaultyWrites (old : Faulty) (number : ℕ) (page : Page) (result : Result Unit StoreFault)
    (new : Faulty) : Type 0 where
  pub fails : IsErr result ↔ (old.calls_to_fault ≡ 1)
  pub ok : OnOk result (new ≡ after_write old number page)
  pub err : OnErr result (new ≡ after_failure (after_failed_write (after_call old) number page))

-- what comes of a growth: it fails where it is the call that is to
pub record FaultyGrows (old : Faulty) (count : ℕ) (result : Result Unit StoreFault) (new : Faulty)
    : Type 0 where
  pub fails : IsErr result ↔ (old.calls_to_fault ≡ 1)
  pub ok : OnOk result (new ≡ after_growth (after_call old) count)
  pub err : OnErr result (new ≡ after_failure (after_failed_growth (after_call old) count))
