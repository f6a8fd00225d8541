-- The first bytes of a disk, which stay where something is written or cut behind them.
use Rattle.std.proofs.Common.{◌≡◌, ℕ, ◌+◌, ◌-◌, ◌<◌, ◌≤◌, List, ◌++◌, length, take, slice_index, sym, ap, refl, ◌∙◌, arith, inl, inr, ext_get_or, get_or-take}
use Rattle.std.proofs.lemmas.Bool.{cases_lt}
use Rattle.std.proofs.lemmas.List.{get_or-append_right, get_or_append_left, length-append, length-take}
use Rattle.sqlite_disk.specs.Disk.{Cut, Follows, Holds, Only, Torn}
use Rattle.file_devices.specs.TrackedDisk.{Begins, BeginsEach}

pub begins_there : (front file : List ℕ) → Begins front file → length front ≤ length file
begins_there front file begins = omega (arith, ap length begins, length-take (length front) file)

begins_each : (front file : List ℕ) → Begins front file → (i : ℕ) → i < length front
    → slice_index file i ≡ slice_index front i
begins_each front file begins i low =
    sym (get_or-take (length front) file i 0 low) ∙ ap (λ (bytes : List ℕ). slice_index bytes i) begins

begins_from : (front file : List ℕ) → length front ≤ length file
    → ((i : ℕ) → i < length front → slice_index file i ≡ slice_index front i) → Begins front file
begins_from front file long each =
    let len : length (take (length front) file) ≡ length front = omega (arith, length-take (length front) file) in
    ext_get_or 0 (take (length front) file) front len λ i low.
    let small : i < length front = omega (arith, len) in
    get_or-take (length front) file i 0 small ∙ each i small

-- bytes were written behind them
pub begins_torn : (front old new : List ℕ) (at n : ℕ) → length front ≤ at → Torn at n old new → Begins front old
    → Begins front new
begins_torn front old new at n under torn begins =
    let long = begins_there front old begins in
    begins_from front new (omega (arith, long, torn.no_shorter)) λ i low.
    torn.below i (omega (arith, long, low)) (omega (arith, under, low)) ∙ begins_each front old begins i low

-- the file was cut behind them
pub begins_cut : (front old new : List ℕ) (len : ℕ) → length front ≤ len → Cut len old new → Begins front old
    → Begins front new
begins_cut front old new len under cut begins =
    let long = begins_there front old begins in
    begins_from front new (omega (arith, long, under, cut.no_shorter)) λ i low.
    cut.below i (omega (arith, long, low)) (omega (arith, under, low)) ∙ begins_each front old begins i low

-- bytes stand behind them
pub begins_written : (front bytes old new : List ℕ) (at : ℕ) → length front ≡ at → Torn at (length bytes) old new
    → (0 < length bytes → Holds new at bytes) → Begins front old → Begins (front ++ bytes) new
begins_written front bytes old new at place torn holds begins =
    let first = begins_torn front old new at (length bytes) (omega (arith, place)) torn begins in
    let there = begins_there front new first in
    let whole = length-append front bytes in
    let long : length front + length bytes ≤ length new =
    elim (cases_lt 0 (length bytes)) [
      | inl some ↦ omega (arith, place, (holds some).within)
      | inr none ↦ omega (arith, there, none)
    ] in
    begins_from (front ++ bytes) new (omega (arith, whole, long)) λ i low.
    elim (cases_lt i (length front)) [
      | inl early ↦ begins_each front new first i early ∙ sym (get_or_append_left front bytes 0 i early)
      | inr late ↦
          let small : i - length front < length bytes = omega (arith, late, low, whole) in
          let here : at + (i - length front) ≡ i = omega (arith, late, place) in
          ap (slice_index new) (sym here) ∙ (holds (omega (arith, small))).each (i - length front) small
          ∙ sym (get_or-append_right front bytes (length front) i 0 refl late)
    ]

-- each content that a crash may leave of such a write begins so
pub begins_each_torn : (front : List ℕ) (old new : List ℕ → Type 0) (at n : ℕ) → length front ≤ at
    → Follows (Torn at n) old new → BeginsEach front old → BeginsEach front new
begins_each_torn front old new at n under follows begins left is =
    let from = follows left is in
    begins_torn front from.0 left at n under from.2 (begins from.0 from.1)

pub begins_each_cut : (front : List ℕ) (old new : List ℕ → Type 0) (len : ℕ) → length front ≤ len
    → Follows (Cut len) old new → BeginsEach front old → BeginsEach front new
begins_each_cut front old new len under follows begins left is =
    let from = follows left is in
    begins_cut front from.0 left len under from.2 (begins from.0 from.1)

pub begins_each_fewer : (front : List ℕ) (old new : List ℕ → Type 0) → ((c : List ℕ) → new c → old c)
    → BeginsEach front old → BeginsEach front new
begins_each_fewer front old new fewer begins left is = begins left (fewer left is)

-- a sync leaves what is seen
pub begins_each_only : (front seen : List ℕ) (new : List ℕ → Type 0) → Only seen new → Begins front seen
    → BeginsEach front new
begins_each_only front seen new only begins left is = rw (only left is) begins

-- a read gives the first bytes
pub begins_held : (bytes file : List ℕ) → (0 < length bytes → Holds file 0 bytes) → Begins bytes file
begins_held bytes file holds =
    let long : length bytes ≤ length file =
    elim (cases_lt 0 (length bytes)) [
      | inl some ↦ omega (arith, (holds some).within)
      | inr none ↦ omega (arith, none)
    ] in
    begins_from bytes file long λ i low.
    let here : 0 + i ≡ i = omega arith in
    ap (slice_index file) (sym here) ∙ (holds (omega (arith, low))).each i low
