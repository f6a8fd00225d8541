-- What the stored pages cover, while the log and the writes go on.
use Rattle.std.proofs.Common.{◌≡◌, ℕ, ◌<◌, ◌≤◌, List, [], ◌∷◌, ◌++◌, length, get_or, set, take, true, sym, ap, subst}
use Rattle.std.proofs.Common.{◌∙◌, ◌-◌, arith, inl, inr, map, refl}
use Rattle.std.specs.List.{All, range_with_len}
use Rattle.std.proofs.lemmas.Bool.{cases_eq, cases_lt}
use Rattle.std.proofs.lemmas.List.{get_or_append_left, get_or-append_right, length-append}
use Rattle.std.proofs.lemmas.List.FromFn.{get_or-map-range_with_len, length-map-range_with_len}
use Rattle.std.proofs.lemmas.List.{get_or-set_other, get_or-set_same, length-set, take_all}
use Rattle.std.proofs.lemmas.List.Elements.{All-weaker}
use Rattle.page_core.specs.declared.page.Page.{Page}
use Rattle.page_core.specs.Page.{formatted}
use Rattle.page_core.specs.Volume.{grown_to}
use Rattle.log_records.specs.declared.record.Record.{Record}
use Rattle.log_records.specs.Coverage.{Covers, IsPast, changes, changes_on}
use Rattle.log_records.specs.Image.{image}
use Rattle.log_records.specs.Log.{IsLog, Log, lsn_of, page_count}
use Rattle.log_records.proofs.Public.{image_past}
use Rattle.log_records.specs.Record.{own_lsn}
use Rattle.log_records.proofs.Public.{covers_later, has_each, of_each}
use Rattle.log_records.proofs.Public.{past_now}
use Rattle.fuzzy_ckpt.specs.Ckpt.{AllCover, AreCovered, CkptView, IsCkptOf, Phase}
use Rattle.fuzzy_ckpt.proofs.Opens.{ckpt_redo_before}

-- ---- a record more

pub all_later : (rs : List Record) (r : Record) (stored : List Page) (bound : ℕ) → bound ≤ own_lsn r
    → AllCover rs stored bound → AllCover (rs ++ r ∷ []) stored bound
all_later rs r stored bound le all = λ p d lt. covers_later rs r p (get_or stored p d) bound le (all p d lt)

pub behind_later : (log : Log) (r : Record) (stored : List Page) (it : CkptView Phase) → IsLog log
    → own_lsn r ≡ lsn_of (length log.records) → IsCkptOf log it → AreCovered log.records stored it
    → AreCovered (log.records ++ r ∷ []) stored it
behind_later log r stored it valid own is all = λ p d lt passed.
    let before = (ckpt_redo_before log it valid is).earlier in
    covers_later log.records r p (get_or stored p d) it.redo (omega arith) (all p d lt passed)

-- ---- a page is stored anew

covers_newer : (rs : List Record) (n : ℕ) (old new : Page) (bound : ℕ) → IsPast rs n new → old.lsn ≤ new.lsn
    → Covers rs n old bound → Covers rs n new bound
covers_newer rs n old new bound past newer covers = record {
  past = past;
  reached = All-weaker (λ lsn. lsn < bound → lsn ≤ old.lsn) (λ lsn. lsn < bound → lsn ≤ new.lsn)
      (λ lsn h low. let le : lsn ≤ old.lsn = h low in omega arith) (changes_on rs n) covers.reached;
}

covers_set : (rs : List Record) (stored : List Page) (bound n p : ℕ) (image d e : Page) → IsPast rs n image
    → (get_or stored n e).lsn ≤ image.lsn → n < length stored
    → ((d : Page) → Covers rs p (get_or stored p d) bound) → Covers rs p (get_or (set stored n image) p d) bound
covers_set rs stored bound n p image d e past newer there covers = elim (cases_eq p n) [
  | inl same ↦
      let here : get_or (set stored n image) p d ≡ image =
      ap (λ (k : ℕ). get_or (set stored n image) k d) same ∙ get_or-set_same stored n image d there in
      let old : Covers rs n (get_or stored n e) bound =
      subst (λ (k : ℕ). Covers rs k (get_or stored k e) bound) same (covers e) in
      rw here (subst (λ (k : ℕ). Covers rs k image bound) (sym same)
      (covers_newer rs n (get_or stored n e) image bound past newer old))
  | inr other ↦ rw (get_or-set_other stored n p image d other) (covers d)
]

pub all_written : (rs : List Record) (stored : List Page) (bound n : ℕ) (image e : Page) → IsPast rs n image
    → (get_or stored n e).lsn ≤ image.lsn → n < length stored → AllCover rs stored bound
    → AllCover rs (set stored n image) bound
all_written rs stored bound n image e past newer there all = λ p d lt.
    let below : p < length stored = omega (arith, length-set stored n image) in
    covers_set rs stored bound n p image d e past newer there (λ x. all p x below)

pub behind_written : (rs : List Record) (stored : List Page) (it : CkptView Phase) (n : ℕ) (image e : Page)
    → IsPast rs n image → (get_or stored n e).lsn ≤ image.lsn → n < length stored → AreCovered rs stored it
    → AreCovered rs (set stored n image) it
behind_written rs stored it n image e past newer there all = λ p d lt passed.
    let below : p < length stored = omega (arith, length-set stored n image) in
    covers_set rs stored it.redo n p image d e past newer there (λ x. all p x below passed)

-- ---- a page that is stored as it is now

pub now_covers : (log : Log) (p bound : ℕ) → IsLog log → Covers log.records p (image log.records p) bound
now_covers log p bound valid =
    let rs = log.records in
    let q = image rs p in
    let whole : take (length rs) rs ≡ rs = take_all (length rs) rs (omega arith) in
    let each : All (λ r. changes p r ≡ true → own_lsn r ≤ q.lsn) rs =
    subst (λ (xs : List Record). All (λ r. changes p r ≡ true → own_lsn r ≤ (image xs p).lsn) xs) whole
    (has_each log valid p (length rs) (omega arith)) in
    record {
      past = past_now rs p;
      reached = of_each (λ lsn. lsn < bound → lsn ≤ q.lsn) p rs
          (All-weaker (λ r. changes p r ≡ true → own_lsn r ≤ q.lsn)
          (λ r. changes p r ≡ true → own_lsn r < bound → own_lsn r ≤ q.lsn) (λ r h e low. h e) rs each);
    }

-- ---- formatted pages are added

-- the log changes none of them, so each is as it is now
module _ (log : Log) (stored : List Page) (count : ℕ) (valid : IsLog log) (enough : page_count log ≤ length stored) where
  added_covers : (p bound : ℕ) (d : Page) → length stored ≤ p → p < length (grown_to count stored)
      → Covers log.records p (get_or (grown_to count stored) p d) bound
  added_covers p bound d past lt =
      let left = count - length stored in
      let added = map formatted (range_with_len (length stored) left) in
      let more : length added ≡ left = length-map-range_with_len formatted (length stored) left in
      let low : p - length stored < left = omega (arith, length-append stored added) in
      let here : get_or (grown_to count stored) p d ≡ formatted p =
      get_or-append_right stored added (length stored) p d refl past
      ∙ get_or-map-range_with_len formatted (length stored) left (p - length stored) p d low (omega arith) in
      subst (λ (q : Page). Covers log.records p q bound)
      (sym (here ∙ sym (image_past log p valid (omega arith)))) (now_covers log p bound valid)

  grown_covers : (p bound : ℕ) (d : Page) → (p < length stored → Covers log.records p (get_or stored p d) bound)
      → p < length (grown_to count stored) → Covers log.records p (get_or (grown_to count stored) p d) bound
  grown_covers p bound d old lt = elim (cases_lt p (length stored)) [
    | inl there ↦
        subst (λ (q : Page). Covers log.records p q bound)
        (sym (get_or_append_left stored (map formatted (range_with_len (length stored) (count - length stored))) d p there))
        (old there)
    | inr past ↦ added_covers p bound d past lt
  ]

  pub all_grown : (bound : ℕ) → AllCover log.records stored bound → AllCover log.records (grown_to count stored) bound
  all_grown bound all = λ p d lt. grown_covers p bound d (all p d) lt

  pub behind_grown : (it : CkptView Phase) → AreCovered log.records stored it
      → AreCovered log.records (grown_to count stored) it
  behind_grown it all = λ p d lt passed. grown_covers p it.redo d (λ there. all p d there passed) lt
