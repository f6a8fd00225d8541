-- Copies, while formatted pages are added to the stored ones.
use Rattle.std.proofs.Common.{◌≡◌, ℕ, ◌-◌, ◌<◌, ◌≤◌, List, length, get_or, map, refl, sym, subst, ◌∙◌, arith, inl, inr}
use Rattle.std.specs.List.{range_with_len}
use Rattle.std.proofs.lemmas.Bool.{cases_lt}
use Rattle.std.proofs.lemmas.List.{get_or_append_left, get_or-append_right, length-append}
use Rattle.std.proofs.lemmas.List.FromFn.{get_or-map-range_with_len, length-map-range_with_len}
use Rattle.page_core.specs.declared.page.Page.{Page}
use Rattle.page_core.specs.Page.{formatted}
use Rattle.page_core.specs.Volume.{grown_to}
use Rattle.log_records.specs.Coverage.{Covers}
use Rattle.log_records.specs.Log.{IsLog, Log, page_count}
use Rattle.copy_vault.specs.Vault.{CopyState}
use Rattle.copy_coverage.specs.Copied.{AreCopied}
use Rattle.copy_coverage.proofs.LaterPages.{count_below-not_more, formatted_is_past, later_covers}

pub copied_grown : (log : Log) (f count : ℕ) (stored : List Page) (copies : List CopyState) → IsLog log
    → page_count log ≤ length stored → AreCopied log f stored copies → AreCopied log f (grown_to count stored) copies
copied_grown log f count stored copies valid enough are = record {
  few = are.few;
  each = are.each;
  decided = are.decided;
  read = λ id copy is p d lt. elim (cases_lt p (length stored)) [
    | inl low ↦
        subst (λ (q : Page). Covers log.records p q copy.redo)
        (sym (get_or_append_left stored (map formatted (range_with_len (length stored) (count - length stored))) d p low))
        (are.read id copy is p d low)
    | inr past ↦
        subst (λ (q : Page). Covers log.records p q copy.redo) (sym (added p d past lt))
        (later_covers log p copy.redo (formatted p) valid
        (omega (arith, past, enough, count_below-not_more log copy.redo)) (formatted_is_past log.records p))
  ];
  covered = are.covered;
}
  where
    added : (p : ℕ) (d : Page) → length stored ≤ p → p < length (grown_to count stored)
        → get_or (grown_to count stored) p d ≡ formatted p
    added p d past lt =
        let left = count - length stored in
        let behind = map formatted (range_with_len (length stored) left) in
        let more : length behind ≡ left = length-map-range_with_len formatted (length stored) left in
        let low : p - length stored < left = omega (arith, length-append stored behind) in
        get_or-append_right stored behind (length stored) p d refl past
        ∙ get_or-map-range_with_len formatted (length stored) left (p - length stored) p d low (omega arith)
