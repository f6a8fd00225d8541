-- The volume as the log makes it below an LSN.
use Rattle.std.proofs.Common.{ℕ, ◌≡◌, ◌+◌, ◌*◌, ◌-◌, ◌/◌, ◌<◌, ◌≤◌, List, [], ◌∷◌}
use Rattle.std.proofs.Common.{suc, length, get_or, take, filter, min, nat_lt, refl, sym, ap, subst, ◌∙◌, arith}
use Rattle.std.proofs.Common.{inl, inr, Option, Some, None, replicate, slice_index}
use Rattle.std.specs.Prelude.{IfSome}
use Rattle.std.proofs.Math.Seq.{take-nil}
use Rattle.std.proofs.lemmas.Bool.{cases_lt, le-ltb, lt-ltb}
use Rattle.std.proofs.Common.{map, slice_index_or}
use Rattle.std.proofs.lemmas.List.{get_or-replicate, get_or-take, get_or_past, length-replicate, length-take, length-take-le, take_min, take_more}
use Rattle.std.proofs.lemmas.List.Elements.{All-get_or}
use Rattle.page_core.specs.declared.page.Page.{Page}
use Rattle.page_core.specs.declared.page.TheConstants.{MAX_PAGES, SLOTS}
use Rattle.page_core.specs.Page.{formatted}
use Rattle.log_records.specs.declared.page_change.PageChange.{PageChange}
use Rattle.log_records.specs.declared.record.Record.{Record}
use Rattle.log_records.specs.Image.{image, image_from, redo_all, with_record}
use Rattle.log_records.specs.Log.{AreWithin, IsLog, IsWithin, Log, lsn_of}
use Rattle.log_records.specs.Record.{change_of, own_lsn}
use Rattle.log_records.proofs.Public.{change_within}
use Rattle.log_records.proofs.Public.{length-redo_all, no_change, other_page, redo_all-append}
use Rattle.log_records.proofs.Public.{all_within, page_count-is_count}
use Rattle.log_rules.specs.Linked.{number_in}
use Rattle.log_rules.proofs.Public.{slots_of_image}
use Rattle.settlement.specs.Receipt.{AreInOrder, ComesBehind, below, position}
use Rattle.settlement.specs.Volume.{AreOfVolume}
use Rattle.settlement.specs.declared.receipt.Receipt.{Receipt}

-- the records stand one behind the other, from a place on
abbrev StandFrom : ℕ → List Record → Type 0
StandFrom s rs = (i : ℕ) (d : Record) → i < length rs → own_lsn (get_or rs i d) ≡ 64 * (s + i + 1)

stand_rest : (s : ℕ) (r : Record) (rs : List Record) → StandFrom s (r ∷ rs) → StandFrom (s + 1) rs
stand_rest s r rs stand i d lt =
    let here : own_lsn (get_or rs i d) ≡ 64 * (s + suc i + 1) = stand (suc i) d (omega arith) in
    omega arith

below_from : (rs : List Record) (s end : ℕ) → StandFrom s rs
    → filter (λ r. nat_lt (own_lsn r) end) rs ≡ take ((end - 1) / 64 - s) rs
below_from [] s end stand = sym (take-nil ((end - 1) / 64 - s))
below_from (r ∷ rs) s end stand =
    let here : own_lsn r ≡ 64 * (s + 0 + 1) = stand 0 r (omega arith) in
    let own : own_lsn r ≡ 64 * (s + 1) = omega arith in
    let rest = below_from rs (s + 1) end (stand_rest s r rs stand) in
    elim (cases_lt (own_lsn r) end) [
      | inl lt ↦
          let more : (end - 1) / 64 - s ≡ suc ((end - 1) / 64 - (s + 1)) = omega arith in
          rw (lt-ltb (own_lsn r) end lt, more, rest) refl
      | inr ge ↦
          let none : (end - 1) / 64 - s ≡ 0 = omega arith in
          let none_left : (end - 1) / 64 - (s + 1) ≡ 0 = omega arith in
          rw (le-ltb (own_lsn r) end ge, none, rest, none_left) refl
    ]

less_none : (n : ℕ) → n - 0 ≡ n
less_none n = omega arith

-- the first records name no more pages than all of them
first_within : (n k : ℕ) (rs : List Record) → AreWithin n rs → AreWithin n (take k rs)
first_within n k rs within = λ i d lt.
    let l = length-take k rs in
    subst (IsWithin n) (sym (get_or-take k rs i d (omega arith))) (within i d (omega arith))

-- the records of a log name only pages of its volume
pub volume_within : (n : ℕ) (rs : List Record) → AreOfVolume n rs → AreWithin n rs
volume_within n rs of =
    let log : Log = record { pages = of.first; records = rs } in
    subst (λ (m : ℕ). AreWithin m rs) of.count (all_within log of.valid)

-- of which a log may have as many
pub volume_fits : (n : ℕ) (rs : List Record) → AreOfVolume n rs → n ≤ MAX_PAGES
volume_fits n rs of = let most = (page_count-is_count (record { pages = of.first; records = rs }) of.valid).most in
    omega (arith, of.count, most)

-- the records below an LSN are the first so many
pub below_is : (log : Log) (end : ℕ) → IsLog log
    → below log.records end ≡ take (min ((end - 1) / 64) (length log.records)) log.records
below_is log end valid =
    let rs = log.records in
    below_from rs 0 end (λ i d lt. let own : own_lsn (get_or rs i d) ≡ lsn_of i = (valid.records i d lt).lsn in omega arith)
    ∙ ap (λ (n : ℕ). take n rs) (less_none ((end - 1) / 64))
    ∙ sym (take_min ((end - 1) / 64) rs)

-- what the pages show that are redone below an LSN
pub shown_below : (n end page slot count number : ℕ) (records : List Record) (pages : List Page)
    → AreOfVolume n records
    → count ≡ min ((end - 1) / 64) (length records)
    → pages ≡ redo_all (take count records) n
    → ((rs : List Record) → AreWithin (length pages) rs
    → pages ≡ redo_all rs (length pages) → number ≡ number_in rs page slot)
    → number ≡ number_in (below records end) page slot
shown_below n end page slot count number records pages of is made shows =
    let log : Log = record { pages = of.first; records = records } in
    let rs = take count records in
    let long : length pages ≡ n = ap length made ∙ length-redo_all rs n in
    let within : AreWithin (length pages) rs =
    subst (λ (m : ℕ). AreWithin m rs) (sym long) (first_within n count records (volume_within n records of)) in
    shows rs within (subst (λ (m : ℕ). pages ≡ redo_all rs m) (sym long) made)
    ∙ ap (λ (xs : List Record). number_in xs page slot)
    (ap (λ (m : ℕ). take m records) is ∙ sym (below_is log end of.valid))

-- one record more is redone
pub redone_more : (rs : List Record) (i n : ℕ) (d : Record) → i < length rs
    → map (λ page. with_record page (get_or rs i d)) (redo_all (take i rs) n)
    ≡ redo_all (take (i + 1) rs) n
redone_more rs i n d lt =
    redo_all-append (take i rs) (get_or rs i d ∷ []) n
    ∙ ap (λ (xs : List Record). redo_all xs n) (sym (take_more rs i d lt))

-- a read behind those so far has no fewer records below it
pub counts_rise : (xs : List Receipt) (i j len : ℕ) (x d : Receipt) → AreInOrder xs → i < j
    → j < length xs → x ≡ slice_index_or xs i x
    → min ((position x - 1) / 64) len ≤ min ((position (slice_index_or xs j d) - 1) / 64) len
counts_rise xs i j len x d order lt inside is =
    let before = All-get_or (λ b. ComesBehind b (slice_index_or xs j d)) (take j xs) i x
    (omega (arith, length-take-le j xs (omega arith))) (order j d inside) in
    let same : get_or (take j xs) i x ≡ x = get_or-take j xs i x lt ∙ sym is in
    let le = (subst (λ (b : Receipt). ComesBehind b (slice_index_or xs j d)) same before).not_below in
    omega arith

-- ---- slots that are not there

-- the records of a log change no page outside its volume
same_outside : (page : Page) (rs : List Record) (n : ℕ) → n ≤ page.number
    → ((i : ℕ) (d : Record) → i < length rs → IsWithin n (get_or rs i d)) → image_from page rs ≡ page
same_outside page [] n out within = refl
same_outside page (r ∷ rs) n out within =
    let here = change_within n r (within 0 r (omega arith)) in
    let same : with_record page r ≡ page = untouched page r n out here in
    rw (same) (same_outside page rs n out (λ i d lt. within (suc i) d (omega arith)))
  where
    untouched : (page : Page) (r : Record) (n : ℕ) → n ≤ page.number
        → IfSome (change_of r) (λ c. c.page < n) → with_record page r ≡ page
    untouched page r n out within = by_change (change_of r) refl within
      where
        by_change : (o : Option PageChange) → change_of r ≡ o → IfSome o (λ c. c.page < n)
            → with_record page r ≡ page
        by_change None is inside = no_change page r is
        by_change (Some c) is inside =
            other_page page r c is (λ e. absurd (omega arith))

number_formatted : (p : ℕ) → (formatted p).number ≡ p
unfolding formatted
number_formatted p = refl

zero_in : (p slot : ℕ) → slice_index (formatted p).slots slot ≡ 0
unfolding formatted
zero_in p slot = elim (cases_lt slot SLOTS) [
  | inl lt ↦ get_or-replicate {A = ℕ} SLOTS slot 0 0 lt
  | inr past ↦ get_or_past (replicate SLOTS 0) slot 0 (omega (arith, length-replicate {A = ℕ} SLOTS 0))
]

-- a page outside the volume has no number but 0
pub number_outside : (rs : List Record) (n page slot : ℕ) → AreWithin n rs → n ≤ page → number_in rs page slot ≡ 0
number_outside rs n page slot within out =
    let same = same_outside (formatted page) rs n (let number = number_formatted page in omega arith) within in
    ap (λ (p : Page). slice_index p.slots slot) same ∙ zero_in page slot

-- and a page has none behind its last slot
pub number_past : (rs : List Record) (page slot : ℕ) → SLOTS ≤ slot → number_in rs page slot ≡ 0
number_past rs page slot past =
    get_or_past (image rs page).slots slot 0 (omega (arith, slots_of_image rs page))
