-- Other bytes of one sum.
use Rattle.std.proofs.Common.{◌≡◌, ◌≢◌, ◌⊎◌, ℕ, List, ◌∙◌, sym, inl, inr, refl, Bool, true, false}
use Rattle.std.specs.Str.{bytes_eq}
use Rattle.std.proofs.lemmas.Slice.Eq.{bytes_eq-Decides}
use Rattle.std.proofs.lemmas.Bool.Decides.{not_from_Decides}
use Rattle.std.specs.Bool.{Decides}
use Rattle.manifest.specs.declared.sum.Sum.{Sum}
use Rattle.manifest.specs.Sums.{Collide, IsSumOf}

pub at_hand : (sum : Sum) (count : ℕ) (made found : List ℕ) → IsSumOf sum count made
    → IsSumOf sum count found → found ≢ made → Collide found made
at_hand sum count made found m f differ =
    record {
      differ = differ;
      many = sym f.many ∙ m.many;
      digest = sym f.digest ∙ m.digest;
    }

by_test : (b : Bool) (sum : Sum) (count : ℕ) (made found : List ℕ) → Decides b (found ≡ made)
    → IsSumOf sum count made → IsSumOf sum count found → (found ≡ made) ⊎ Collide found made
by_test true sum count made found d m f = inl (d.0 refl)
by_test false sum count made found d m f =
    inr (at_hand sum count made found m f (not_from_Decides false d refl))

-- the bytes are the same, or collide
pub same_or_collide : (sum : Sum) (count : ℕ) (made found : List ℕ) → IsSumOf sum count made
    → IsSumOf sum count found → (found ≡ made) ⊎ Collide found made
same_or_collide sum count made found =
    by_test (bytes_eq found made) sum count made found (bytes_eq-Decides found made)
