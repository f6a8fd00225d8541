-- The first bytes of a device, which stay.
use Rattle.std.proofs.Common.{◌≡◌, ℕ, ◌+◌, ◌≤◌, List, ◌++◌, length, take, refl, sym, ap, ◌∙◌, arith}
use Rattle.std.proofs.lemmas.List.{length-append, length-take, take_at, take-take}
use Rattle.log_store.specs.Device.{KeepsFirst}

-- nothing was done
pub keeps_all : (n : ℕ) (bytes : List ℕ) → n ≤ length bytes → KeepsFirst n bytes bytes
keeps_all n bytes long = record { there = long; same = refl }

-- bytes were stored behind them
pub keeps_stored : (n from : ℕ) (old new tail : List ℕ) → from ≡ n → n ≤ length old
    → new ≡ take from old ++ tail → KeepsFirst n old new
keeps_stored n from old new tail place long stored =
    let front : length (take from old) ≡ n = omega (arith, length-take from old) in
    record {
      there = omega (arith, ap length stored, length-append (take from old) tail);
      same = ap (take n) stored ∙ take_at (take from old) tail n front ∙ ap (λ k. take k old) place;
    }

-- so it has as many bytes
pub length_stored : (n from : ℕ) (old new tail : List ℕ) → from ≡ n → n ≤ length old → new ≡ take from old ++ tail
    → length new ≡ n + length tail
length_stored n from old new tail place long stored =
    let front : length (take from old) ≡ n = omega (arith, length-take from old) in
    omega (arith, ap length stored, length-append (take from old) tail)

-- more of them stayed later
pub keeps_longer : (m n : ℕ) (old mid new : List ℕ) → m ≤ n → KeepsFirst m old mid → KeepsFirst n mid new
    → KeepsFirst m old new
keeps_longer m n old mid new le first then =
    let long = then.there in
    record {
      there = omega arith;
      same = sym (take-take m n new le) ∙ ap (take m) then.same ∙ take-take m n mid le ∙ first.same;
    }

-- fewer of them stay too
pub keeps_fewer : (m n : ℕ) (old new : List ℕ) → m ≤ n → KeepsFirst n old new → KeepsFirst m old new
keeps_fewer m n old new le keeps =
    let long = keeps.there in
    record {
      there = omega arith;
      same = sym (take-take m n new le) ∙ ap (take m) keeps.same ∙ take-take m n old le;
    }
