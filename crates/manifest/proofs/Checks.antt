-- What a reader has left that checks.
use Rattle.std.proofs.Common.{◌≡◌, ◌++◌, ◌∙◌, ℕ, List, Bool, true, false, None, Some, IfSome, append_assoc, ap}
use Rattle.std.specs.Prelude.{Option, if◌then◌else◌}
use Rattle.std.specs.Bool.{Decides}
use Rattle.std.specs.Io.KnownBytes.{Consumes, IsAtEnd, append_known}
use Rattle.std.proofs.lemmas.Bool.Decides.{Decides-and, Decides-eqb}
use Rattle.std.proofs.lemmas.Slice.Eq.{bytes_eq-Decides}
use Rattle.sha2.specs.Sha256.{sha256}
use Rattle.manifest.specs.declared.entry.FileSum.{FileSum}
use Rattle.manifest.specs.Checking.{IsNamed, checked, is_named, part_of, too_many}
use Rattle.manifest.specs.Sums.{count_of}

-- whether a file is the one that is named
pub is_decided : (file : FileSum) (bytes : List ℕ) → Decides (is_named file bytes) (IsNamed file bytes)
is_decided file bytes =
    let part = part_of file bytes in
    let both = Decides-and _ _ (bytes_eq-Decides file.sum.0 (sha256 part)) (Decides-eqb file.bytes (count_of part)) in (
      λ e. let it = both.0 e in record { digest = it.0; many = it.1 },
      λ it. both.1 (it.digest, it.many),
    )

-- what is given is taken from what is left
taken : (a b : Option (List ℕ)) (given : List ℕ) → Consumes a b given
    → Consumes (append_known a too_many) (append_known b too_many) given
taken None b given h = tt
taken (Some xs) None given h = h
taken (Some xs) (Some ys) given h = ap (λ l. l ++ too_many) h ∙ append_assoc given ys too_many

taken_by : (is : Bool) (a b : Option (List ℕ)) (given : List ℕ) → Consumes a b given
    → Consumes (if is then a else append_known a too_many) (if is then b else append_known b too_many) given
taken_by true a b given h = h
taken_by false a b given h = taken a b given h

pub gives : (file : FileSum) (begun a b : Option (List ℕ)) (given : List ℕ) → Consumes a b given
    → Consumes (checked file begun a) (checked file begun b) given
gives file None a b given h = h
gives file (Some bytes) a b given h = taken_by (is_named file bytes) a b given h

ends_by : (is : Bool) (a : Option (List ℕ)) → is ≡ true → IsAtEnd a
    → IsAtEnd (if is then a else append_known a too_many)
ends_by true a e h = h
ends_by false a e h = absurd (cc)

-- a file that is the one that is named comes to its end
pub ends : (file : FileSum) (begun a : Option (List ℕ)) → IfSome begun (IsNamed file) → IsAtEnd a
    → IsAtEnd (checked file begun a)
ends file None a it h = h
ends file (Some bytes) a it h = ends_by (is_named file bytes) a ((is_decided file bytes).1 it) h
