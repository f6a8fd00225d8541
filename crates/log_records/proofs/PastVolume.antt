-- Pages past the volume: no record of the log names them.
use Rattle.std.proofs.Common.{◌≡◌, ℕ, zero, suc, ◌+◌, ◌<◌, ◌≤◌, eqb, Bool, true, false, length, get_or, take}
use Rattle.std.proofs.Common.{refl, sym, ap, subst, ◌∙◌, arith, eqb-true, inl, inr, List, ◌-◌, ◌++◌, map}
use Rattle.std.specs.List.{range_with_len}
use Rattle.std.proofs.lemmas.Bool.{cases_lt}
use Rattle.std.proofs.lemmas.List.{get_or_append_left, get_or-append_right, length-append, same_lists, take_all}
use Rattle.std.proofs.lemmas.List.FromFn.{get_or-map-range_with_len, length-map-range_with_len}
use Rattle.page_core.specs.Volume.{grown_to}
use Rattle.std.specs.Prelude.{Option, Some, None, IfSome}
use Rattle.std.specs.Option.{option_map_or}
use Rattle.page_core.specs.declared.page.Page.{Page}
use Rattle.page_core.specs.Page.{formatted}
use Rattle.log_records.specs.declared.page_change.PageChange.{PageChange}
use Rattle.log_records.specs.declared.record.Record.{Record}
use Rattle.log_records.specs.declared.record.Record.TheVariants.{Begin}
use Rattle.log_records.specs.Coverage.{IsPast, changes}
use Rattle.log_records.specs.Image.{image, redo_all}
use Rattle.log_records.specs.Log.{IsLog, Log, page_count}
use Rattle.log_records.specs.Record.{change_of}
use Rattle.log_records.proofs.Changes.{change_within}
use Rattle.log_records.proofs.Coverage.{image-same}
use Rattle.log_records.proofs.PageCounts.{stands_in}

-- no record of the log changes such a page
pub not_changed : (log : Log) (p i : ℕ) (d : Record) → IsLog log → page_count log ≤ p → i < length log.records
    → changes p (get_or log.records i d) ≡ false
not_changed log p i d valid past_end lt =
    by_change (change_of (get_or log.records i d))
    (change_within (page_count log) (get_or log.records i d) (stands_in log valid i d lt).within)
  where
    other : (c : PageChange) → c.page < page_count log → (b : Bool) → eqb c.page p ≡ b → b ≡ false
    other c within true e = let same = eqb-true c.page p e in absurd (omega arith)
    other c within false e = refl

    by_change : (o : Option PageChange) → IfSome o (λ c. c.page < page_count log)
        → option_map_or (λ c. eqb c.page p) o false ≡ false
    by_change None within = refl
    by_change (Some c) within = other c within (eqb c.page p) refl

-- so it is as it was formatted
formatted_past : (log : Log) (p k : ℕ) → IsLog log → page_count log ≤ p → k ≤ length log.records
    → image (take k log.records) p ≡ formatted p
formatted_past log p zero valid past_end le = refl
formatted_past log p (suc k) valid past_end le =
    let lt : k < length log.records = omega arith in
    let next : k + 1 ≡ suc k = omega arith in
    subst (λ (n : ℕ). image (take n log.records) p ≡ formatted p) next
    (image-same log.records p k (Begin 0 0) lt (not_changed log p k (Begin 0 0) valid past_end lt)
    ∙ formatted_past log p k valid past_end (omega arith))

pub past_is_formatted : (log : Log) (p : ℕ) (page : Page) → IsLog log → page_count log ≤ p → IsPast log.records p page
    → page ≡ formatted p
past_is_formatted log p page valid past_end past =
    past.made ∙ formatted_past log p past.count valid past_end past.within

pub image_past : (log : Log) (p : ℕ) → IsLog log → page_count log ≤ p → image log.records p ≡ formatted p
image_past log p valid past_end =
    ap (λ (rs : List Record). image rs p) (sym (take_all (length log.records) log.records (omega arith)))
    ∙ formatted_past log p (length log.records) valid past_end (omega arith)

-- the volume that a log makes, grown, is the one that it makes of more pages
pub redo_all-grown : (log : Log) (count : ℕ) → IsLog log → page_count log ≤ count
    → grown_to count (redo_all log.records (page_count log)) ≡ redo_all log.records count
redo_all-grown log count valid le =
    let n = page_count log in
    let rs = log.records in
    let pages = redo_all rs n in
    let long : length pages ≡ n = length-map-range_with_len (image rs) 0 n in
    let added = map formatted (range_with_len (length pages) (count - length pages)) in
    let more : length added ≡ count - length pages =
    length-map-range_with_len formatted (length pages) (count - length pages) in
    let all : length (redo_all rs count) ≡ count = length-map-range_with_len (image rs) 0 count in
    same_lists (pages ++ added) (redo_all rs count) (omega (arith, length-append pages added, long, more, all)) (λ k d lt.
    let below : k < count = omega (arith, length-append pages added, long, more, lt) in
    let there : get_or (redo_all rs count) k d ≡ image rs k =
    get_or-map-range_with_len (image rs) 0 count k k d below (omega arith) in
    elim (cases_lt k n) [
      | inl less ↦
          let short : k < length pages = omega (arith, long, less) in
          get_or_append_left pages added d k short
          ∙ get_or-map-range_with_len (image rs) 0 n k k d less (omega arith) ∙ sym there
      | inr past ↦
          let behind : length pages ≤ k = omega (arith, long, past) in
          let left : k - length pages < count - length pages = omega (arith, long, below, past) in
          get_or-append_right pages added (length pages) k d refl behind
          ∙ get_or-map-range_with_len formatted (length pages) (count - length pages) (k - length pages) k d left
          (omega arith)
          ∙ sym (image_past log k valid past) ∙ sym there
    ])
