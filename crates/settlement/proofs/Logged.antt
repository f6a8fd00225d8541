-- The records that receipts speak of.
use Rattle.std.proofs.Common.{ℕ, ◌≡◌, ◌<◌, ◌≤◌, List, length, slice_index_or, slice_get}
use Rattle.std.proofs.Common.{IsSomeAnd, Option, arith, refl, subst, sym}
use Rattle.std.proofs.lemmas.Option.{slice_get_past, slice_get_read}
use Rattle.log_records.specs.declared.record.Record.{Record}
use Rattle.log_records.specs.Log.{lsn_of}
use Rattle.settlement.specs.Receipt.{HasAt}

pub has_none : (rs : List Record) (P : Record → Type 0) (lsn : ℕ)
    → ((i : ℕ) → lsn ≡ lsn_of i → length rs ≤ i) → HasAt rs lsn P → ⊥
has_none rs P lsn none (i, at, there) =
    subst (λ (o : Option Record). IsSomeAnd o P) (slice_get_past rs i (none i at)) there

pub has_here : (rs : List Record) (P : Record → Type 0) (lsn i : ℕ) (r : Record)
    → lsn ≡ lsn_of i → i < length rs → r ≡ slice_index_or rs i r → P r → HasAt rs lsn P
has_here rs P lsn i r at inside is holds =
    let found = slice_get_read rs (length rs) i r refl inside is in
    (i, at, subst (λ (o : Option Record). IsSomeAnd o P) (sym found) holds)

pub has_this : (rs : List Record) (P : Record → Type 0) (lsn i : ℕ) (r : Record)
    → lsn ≡ lsn_of i → i < length rs → r ≡ slice_index_or rs i r → HasAt rs lsn P → P r
has_this rs P lsn i r at inside is (j, at-j, there) =
    let same : j ≡ i = omega arith in
    let found = slice_get_read rs (length rs) i r refl inside is in
    subst (λ (o : Option Record). IsSomeAnd o P) found
    (subst (λ (k : ℕ). IsSomeAnd (slice_get rs k) P) same there)
