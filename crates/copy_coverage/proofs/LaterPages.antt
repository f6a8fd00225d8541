-- Pages past the page count at an LSN: no record below it changes them, so whatever was made of such
-- a page has all of its changes below that LSN.
use Rattle.std.proofs.Common.{◌≡◌, ℕ, ◌-◌, ◌/◌, ◌<◌, ◌≤◌, List, get_or, take, refl, sym, ap, ◌∙◌}
use Rattle.std.proofs.Common.{Bool, true, false, arith, inl, inr}
use Rattle.std.specs.List.{All}
use Rattle.std.proofs.lemmas.Bool.{cases_lt}
use Rattle.std.proofs.lemmas.List.{get_or-take, length-take}
use Rattle.page_core.specs.declared.page.Page.{Page}
use Rattle.page_core.specs.Page.{formatted}
use Rattle.log_records.specs.declared.record.Record.{Record}
use Rattle.log_records.specs.Coverage.{Covers, IsPast, changes}
use Rattle.log_records.specs.Log.{IsLog, Log, page_count, page_count_below}
use Rattle.log_records.specs.Record.{own_lsn}
use Rattle.log_records.proofs.Public.{of_each}
use Rattle.log_records.proofs.Public.{count_behind-not_less, count_behind-rises, page_count_at-not_more, valid_cut}
use Rattle.log_records.proofs.Public.{not_changed}

-- the page count along the LSNs
pub count_below-rises : (log : Log) (low high : ℕ) → low ≤ high → page_count_below log low ≤ page_count_below log high
count_below-rises log low high le =
    count_behind-rises log.pages log.records ((low - 1) / 64) ((high - 1) / 64) (omega arith)

pub count_below-not_less : (log : Log) (lsn : ℕ) → log.pages ≤ page_count_below log lsn
count_below-not_less log lsn = count_behind-not_less log.pages (take ((lsn - 1) / 64) log.records)

pub count_below-not_more : (log : Log) (lsn : ℕ) → page_count_below log lsn ≤ page_count log
count_below-not_more log lsn = page_count_at-not_more log ((lsn - 1) / 64)

-- no record below an LSN changes a page that the volume does not have there
pub none_below : (log : Log) (p lsn : ℕ) → IsLog log → page_count_below log lsn ≤ p
    → All (λ r. changes p r ≡ true → lsn ≤ own_lsn r) log.records
none_below log p lsn valid past = λ i d lt e.
    let k = (lsn - 1) / 64 in
    let cut = record log { records = take k log.records } in
    let own = (valid.records i d lt).lsn in
    elim (cases_lt (own_lsn (get_or log.records i d)) lsn) [
      | inl low ↦
          let below : i < k = omega (arith, low, own) in
          let left : changes p (get_or (take k log.records) i d) ≡ false =
          not_changed cut p i d (valid_cut log k valid) past (omega (arith, below, lt, length-take k log.records)) in
          let none : changes p (get_or log.records i d) ≡ false =
          ap (changes p) (sym (get_or-take k log.records i d below)) ∙ left in
          absurd (not_both (changes p (get_or log.records i d)) e none)
      | inr high ↦ high
    ]
  where
    not_both : (b : Bool) → b ≡ true → b ≡ false → ⊥
    not_both true is other = cc
    not_both false is other = cc

-- so such a page has all of its changes below that LSN, whichever it has
pub later_covers : (log : Log) (p lsn : ℕ) (page : Page) → IsLog log → page_count_below log lsn ≤ p
    → IsPast log.records p page → Covers log.records p page lsn
later_covers log p lsn page valid past is = record {
  past = is;
  reached = of_each (λ own. own < lsn → own ≤ page.lsn) p log.records
      (λ i d lt e low. let high = none_below log p lsn valid past i d lt e in absurd (omega arith));
}

pub formatted_is_past : (rs : List Record) (p : ℕ) → IsPast rs p (formatted p)
formatted_is_past rs p = record { count = 0; within = omega arith; made = refl }

pub lsn_of_formatted : (p : ℕ) → (formatted p).lsn ≡ 0
unfolding formatted
lsn_of_formatted p = refl
