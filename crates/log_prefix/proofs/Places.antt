-- Where a record may stand alone.
use Rattle.std.proofs.Common.{ℕ, ◌≡◌, ◌+◌, ◌-◌, ◌*◌, ◌%◌, ◌^◌, ◌<◌, ◌≤◌, ◌⊎◌, inl, inr}
use Rattle.std.proofs.Common.{List, length, take, drop, ap, ◌∙◌, arith, length-drop}
use Rattle.std.proofs.lemmas.List.{length-take}
use Rattle.std.proofs.lemmas.Bool.{cases_lt}
use Rattle.std.specs.Prelude.{◌/◌}
use Rattle.log_records.specs.declared.record.Record.{Record}
use Rattle.log_records.specs.Record.{IsLsn, own_lsn}
use Rattle.log_records.proofs.Public.{record_length, valid_change}
use Rattle.log_prefix.specs.Remains.{StandsAlone}

-- at a multiple of 64, with all its bytes there
pub record IsPlace (bytes : List ℕ) (at : ℕ) : Type 0 where
  pub aligned : at % 64 ≡ 0
  pub fits : at < 2 ^ 64
  pub within : at + 64 ≤ length bytes

pub place_of : (bytes : List ℕ) (at : ℕ) (r : Record) → StandsAlone bytes at r
    → IsPlace bytes at
place_of bytes at r stands =
    let lsn : IsLsn (own_lsn r) = (valid_change r stands.spells.valid).0 in
    let there : length (take (at + 64 - at) (drop at bytes)) ≡ 64 =
    ap length stands.spells.spelled ∙ record_length.each r in
    record {
      aligned = omega arith;
      fits = omega arith;
      within = omega (arith, length-take (at + 64 - at) (drop at bytes), length-drop at bytes);
    }

-- the places are counted in steps of 64: each is below their count ..
pub below_last : (bytes : List ℕ) (at : ℕ) → IsPlace bytes at → at < length bytes / 64 * 64
below_last bytes at place = omega arith

-- .. and there is one in each step
pub in_step : (bytes : List ℕ) (index at : ℕ) → IsPlace bytes at → at < (index + 1) * 64
    → (at < index * 64) ⊎ (at ≡ index * 64)
in_step bytes index at place below =
    elim (cases_lt at (index * 64)) [ inl earlier ↦ inl earlier | inr past ↦ inr (omega arith) ]
