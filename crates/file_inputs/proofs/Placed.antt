-- Which files are compared.
use Rattle.std.proofs.Common.{◌≡◌, ◌<◌, ℕ, Bool, Bor, List, [], ◌∷◌, ◌↔◌, ◌∙◌, false, inl, inr, refl, subst, sym, true}
use Rattle.std.specs.Prelude.{All, Err, IsSome, IsTrue, None, Ok, OnOk, Option, Result, Some}
use Rattle.std.proofs.lemmas.List.Elements.{All-append, All-cons, All-nil}
use Rattle.std.proofs.lemmas.Bool.{cases_lt, false≢true}
use Rattle.manifest.specs.Entries.{Listed}
use Rattle.checked_files.specs.Known.{known_of}
use Rattle.checked_files.specs.declared.expected.Expected.{Expected}
use Rattle.checked_files.specs.declared.known.Known.{Known}
use Rattle.checked_files.specs.declared.known.Known.TheVariants.{Named, Nothing, Unnamed}
use Rattle.checked_files.specs.declared.known.ManifestUse.{ManifestUse}
use Rattle.checked_files.specs.declared.known.ManifestUse.TheVariants.{Aside, Beside, Told}
use Rattle.checked_files.specs.declared.known.ReadFile.{ReadFile}
use Rattle.file_inputs.specs.declared.input_names.InputNames.{InputNames}
use Rattle.file_inputs.specs.declared.manifests.Checks.{Checks}
use Rattle.file_inputs.specs.ReadFiles.{name_at}
use Rattle.file_inputs.specs.Manifests.{ArePlaced, IsPlaced, TakesUp}

-- where no file is added, all are as they were
kept : (names : InputNames) (old new : Checks) → new.expected.items ≡ old.expected.items
    → new.unnamed.items ≡ old.unnamed.items → ArePlaced names old → ArePlaced names new
kept names old new expected unnamed are = record {
  expected = subst (λ (it : List Expected). All (λ one. IsPlaced names one.name.now) it) (sym expected) are.expected;
  unnamed = subst (λ (it : List (Bor (List ℕ))). All (λ one. IsPlaced names one.now) it) (sym unnamed) are.unnamed;
}

-- one more file is placed too
pub taken : (names : InputNames) (name : Bor (List ℕ)) (known : Known) (old new : Checks)
    → TakesUp name known old new → IsPlaced names name.now → ArePlaced names old → ArePlaced names new
taken names name Nothing old new takes is are = kept names old new takes.expected takes.unnamed are
taken names name Unnamed old new takes is are = record {
  expected = subst (λ (it : List Expected). All (λ one. IsPlaced names one.name.now) it) (sym takes.0) are.expected;
  unnamed = subst (λ (it : List (Bor (List ℕ))). All (λ one. IsPlaced names one.now) it) (sym takes.1)
      (All-append (λ one. IsPlaced names one.now) old.unnamed.items (name ∷ []) are.unnamed (All-cons (λ one. IsPlaced names one.now) name [] is (All-nil (λ one. IsPlaced names one.now))));
}
taken names name (Named file) old new takes is are = record {
  expected = subst (λ (it : List Expected). All (λ one. IsPlaced names one.name.now) it) (sym takes.1)
      (All-append (λ one. IsPlaced names one.name.now) old.expected.items (record { name = name; file = file } ∷ []) are.expected
      (All-cons (λ one. IsPlaced names one.name.now) (record { name = name; file = file }) [] is (All-nil (λ one. IsPlaced names one.name.now))));
  unnamed = subst (λ (it : List (Bor (List ℕ))). All (λ one. IsPlaced names one.now) it) (sym takes.0) are.unnamed;
}

-- of a file that counts in part nothing is known
part_is_nothing : (choice : ManifestUse) (stands : Option Listed) (it : ReadFile) → it.in_part ≡ true
    → known_of choice stands it ≡ Nothing
part_is_nothing Beside None it part = refl
part_is_nothing Beside (Some manifest) it part = rw part refl
part_is_nothing (Told file) None it part = refl
part_is_nothing (Told file) (Some manifest) it part = rw part refl
part_is_nothing Aside stands it part = refl

-- so whatever is taken up of it, all files are placed
pub compared : (names : InputNames) (name : Bor (List ℕ)) (place : ℕ) (choice : ManifestUse) (stands : Option Listed)
    (it : ReadFile) (known : Known) (old new : Checks) → name_at names place ≡ Some name.now
    → (in_part : Bool) → it.in_part ≡ in_part → IsTrue in_part ↔ (IsSome names.until × (place < 2))
    → known ≡ known_of choice stands it → TakesUp name known old new → ArePlaced names old → ArePlaced names new
compared names name place choice stands it known old new named true part decided is takes are =
    let nothing : known ≡ Nothing = is ∙ part_is_nothing choice stands it part in
    let keeps = subst (λ (of : Known). TakesUp name of old new) nothing takes in
    kept names old new keeps.expected keeps.unnamed are
compared names name place choice stands it known old new named false part decided is takes are =
    taken names name known old new takes (record {
      place = place;
      named = named;
      whole = λ some. elim (cases_lt place 2) [
        | inl below ↦ absurd (false≢true (decided.1 (some, below)))
        | inr above ↦ above
      ];
    }) are

pub on_ok : {T E A B : Type 0} (r : Result T E) → OnOk r A → (A → B) → OnOk r B
on_ok (Ok it) a f = f a
on_ok (Err why) a f = tt
