-- The bytes of a master record, read to their end, and the checkpoint that it names.
use Rattle.std.proofs.Common.{◌≡◌, ◌∙◌, ℕ, ◌<◌, ◌≤◌, List, [], ◌++◌, length, refl, sym, ap, subst, arith, inl, inr}
use Rattle.std.specs.Prelude.{Option, Some, None, Result, Ok, Err, IfSome, IfOk, IfErr, IsTrue, false}
use Rattle.std.proofs.lemmas.Bool.{cases_lt}
use Rattle.std.specs.Io.KnownBytes.{Consumes, IsAtEnd}
use Rattle.std.proofs.lemmas.List.{append-nil, length-append, nil_from_length}
use Rattle.page_core.proofs.Public.{of_all}
use Rattle.log_store.specs.declared.master.Master.{Master}
use Rattle.log_store.specs.Master.{SpellsMaster}
use Rattle.log_store.proofs.Public.{length-master_bytes}
use Rattle.media_restore.specs.declared.files_fault.RestoreFault.{RestoreFault}
use Rattle.media_restore.specs.declared.files_fault.RestoreFault.TheVariants.{BadHeader}
use Rattle.media_restore.specs.Files.{NotSpelled}
use Rattle.media_restore.specs.FilesStop.{MayBeMaster}

pub spelled_length : (m : Master) (bytes : List ℕ) → SpellsMaster m bytes → length bytes ≡ 64
spelled_length m bytes is = ap length is.spelled ∙ length-master_bytes m

-- no master record begins with as many bytes that are none
pub none_begins : (found : Option Master) (bytes rest : List ℕ) (m : Master) → 64 ≤ length bytes
    → ((m : Master) → SpellsMaster m bytes → found ≡ Some m) → found ≡ None → ¬ SpellsMaster m (bytes ++ rest)
none_begins found bytes rest m long only none is =
    let nothing : rest ≡ [] = nil_from_length rest
    (omega (arith, spelled_length m (bytes ++ rest) is, length-append bytes rest)) in
    let here : SpellsMaster m bytes = subst (SpellsMaster m)
    (ap (λ (bs : List ℕ). bytes ++ bs) nothing ∙ append-nil bytes) is in
    let no : None ≡ Some m = sym none ∙ only m here in cc

-- the master record that these bytes spell, if they do
pub record IsFoundIn (found : Option Master) (given : List ℕ) : Type 0 where
  pub right : IfSome found (λ m. SpellsMaster m given)
  pub only : (m : Master) → SpellsMaster m given → found ≡ Some m

pub none_in_nothing : IsFoundIn None []
none_in_nothing = record {
  right = tt;
  only = λ m is. let long = spelled_length m [] is in absurd (omega arith);
}

right_of : (found : Option Master) (given : List ℕ) (m : Master) → IsFoundIn found given → found ≡ Some m
    → SpellsMaster m given
right_of found given m in_it is =
    let P : Option Master → Type 0 = λ o. IfSome o (λ m. SpellsMaster m given) in subst P is in_it.right

pub found_at_end : (r : Result Master RestoreFault) (found : Option Master) (old new : Option (List ℕ))
    (given : List ℕ) → Consumes old new given → IsAtEnd new → IsFoundIn found given
    → IfOk r (λ m. found ≡ Some m) → IfOk r (λ m. IfSome old (SpellsMaster m))
found_at_end (Ok m) found old new given taken end in_it is =
    of_all old new given (SpellsMaster m) taken end (right_of found given m in_it is)
found_at_end (Err e) found old new given taken end in_it is = tt

pub none_at_end : (r : Result Master RestoreFault) (found : Option Master) (old new : Option (List ℕ))
    (given : List ℕ) → Consumes old new given → IsAtEnd new → IsFoundIn found given
    → IfErr r (λ fault. (fault ≡ BadHeader) × (found ≡ None)) → IfErr r (NotSpelled old)
none_at_end (Ok m) found old new given taken end in_it is = tt
none_at_end (Err e) found old new given taken end in_it is =
    subst (NotSpelled old) (sym is.0)
    (of_all old new given (λ bytes. (m : Master) → ¬ SpellsMaster m bytes) taken end
    (λ m spelled. let no : None ≡ Some m = sym is.1 ∙ in_it.only m spelled in cc))

-- 65 bytes spell none
pub still_short : (found : Option Master) (given : List ℕ) (filled : ℕ) → filled ≤ 65 → length given ≡ filled
    → IsFoundIn found given → ((64 ≤ filled) × (found ≡ None) → IsTrue false) → filled < 65
still_short (Some m) given filled within is in_it step = let long = spelled_length m given in_it.right in omega arith
still_short None given filled within is in_it step = elim (cases_lt filled 65) [
  | inl lt ↦ lt
  | inr le ↦ let past : 64 ≤ filled = omega arith in let no = step (past, refl) in cc
]

-- the bytes that are not misspelt so far are too few, or are one
pub still_open : (found : Option Master) (given : List ℕ) (filled : ℕ) → length given ≡ filled → IsFoundIn found given
    → ((64 ≤ filled) × (found ≡ None) → IsTrue false) → MayBeMaster given
still_open (Some m) given filled is in_it step = inr (m, in_it.right)
still_open None given filled is in_it step = elim (cases_lt filled 64) [
  | inl lt ↦ inl (omega arith)
  | inr le ↦ let no = step (le, refl) in cc
]
