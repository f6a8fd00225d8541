-- An inventory that takes note of one name more.
use Rattle.std.proofs.Common.{◌≡◌, ◌≢◌, ◌↔◌, ◌++◌, [], ◌∷◌, ℕ, Bool, List, ap, arith, drop, false, get_or, inl, inr, IsPermutation, IsTrue, length, map, refl, subst, sym, true, true≢false, ◌∙◌}
use Rattle.std.specs.Prelude.{codes, decimal, None, String, string_bytes}
use Rattle.std.specs.List.{All, Contains}
use Rattle.std.proofs.lemmas.Fmt.{decimal_injective}
use Rattle.std.proofs.lemmas.List.Sorted.{Contains-permutation, IsPermutation-sym}
use Rattle.std.proofs.lemmas.List.{length-map, map-append}
use Rattle.std.proofs.lemmas.List.Elements.{All-push, Contains-append_left, Contains-push, Contains-push_cases}
use Rattle.database_files.specs.Found.{IsCopyId, IsReadOf, NamesCopy, TellsNames}
use Rattle.database_files.specs.Standing.{IsUnfinished}
use Rattle.database_files.specs.declared.inventory.Inventory.{Inventory}

-- nothing is among no names
none_there : {X : Type 0} (x : X) → ¬ Contains [] x
none_there x (k, lt, is) = absurd (omega (arith, lt))

no_flag : (n : List ℕ) → IsTrue false ↔ Contains [] n
no_flag n = (λ is. absurd (true≢false (sym is)), λ has. absurd (none_there n has))

pub none_noted : (it : Inventory) → it.copies.items ≡ [] → it.has_log ≡ false → it.has_volume ≡ false → it.has_master ≡ false
    → it.has_closed ≡ false → it.has_manifest ≡ false → it.unfinished.items ≡ [] → TellsNames (Contains []) it
none_noted it copies log volume master closed manifest unfinished = record {
  log = subst (λ (b : Bool). IsTrue b ↔ Contains [] (codes "log")) (sym log) (no_flag (codes "log"));
  volume = subst (λ (b : Bool). IsTrue b ↔ Contains [] (codes "volume")) (sym volume) (no_flag (codes "volume"));
  master = subst (λ (b : Bool). IsTrue b ↔ Contains [] (codes "master")) (sym master) (no_flag (codes "master"));
  closed = subst (λ (b : Bool). IsTrue b ↔ Contains [] (codes "closed")) (sym closed) (no_flag (codes "closed"));
  manifest = subst (λ (b : Bool). IsTrue b ↔ Contains [] (codes "manifest")) (sym manifest) (no_flag (codes "manifest"));
  copies = λ id. (
    λ has. absurd (none_there id (subst (λ (ids : List ℕ). Contains ids id) copies has)),
    λ had. absurd (none_there (codes "copy-" ++ decimal id) had.1),
  );
  unfinished = λ k d lt. absurd (omega (arith, lt, length-map it.unfinished.items string_bytes, ap length unfinished));
}

-- ---- one name more

-- two names with another byte at some place
pub differ : (name a b : List ℕ) (i : ℕ) → name ≡ a → get_or a i 0 ≢ get_or b i 0 → name ≢ b
differ name a b i is apart = λ same. apart (ap (λ (it : List ℕ). get_or it i 0) (sym is ∙ same))

-- it is told of another name
pub of_other : (told : Bool) (names : List (List ℕ)) (name n : List ℕ) → name ≢ n → IsTrue told ↔ Contains names n
    → IsTrue told ↔ Contains (names ++ name ∷ []) n
of_other told names name n apart was = (
  λ is. Contains-append_left names (name ∷ []) n (was.0 is),
  λ has. was.1 (elim (Contains-push_cases names name n has) [
    | inl before ↦ before
    | inr same ↦ absurd (apart same)
  ]),
)

-- and of this one
pub of_this : (names : List (List ℕ)) (name n : List ℕ) → name ≡ n → IsTrue true ↔ Contains (names ++ name ∷ []) n
of_this names name n same =
    (λ is. subst (λ (m : List ℕ). Contains (names ++ name ∷ []) m) same (Contains-push names name), λ has. refl)

-- the ids of the copies are those of the names
abbrev pub AreIdsOf : List ℕ → List (List ℕ) → ℕ → Type 0
AreIdsOf ids names id = Contains ids id ↔ (IsCopyId id × Contains names (codes "copy-" ++ decimal id))

-- the name is that of no copy
no_copy : (ids : List ℕ) (names : List (List ℕ)) (name : List ℕ) (id : ℕ) → ¬ NamesCopy id name
    → AreIdsOf ids names id → AreIdsOf ids (names ++ name ∷ []) id
no_copy ids names name id not was = (
  λ has. let it = was.0 has in (it.0, Contains-append_left names (name ∷ []) (codes "copy-" ++ decimal id) it.1),
  λ had. was.1 (
    had.0,
    elim (Contains-push_cases names name (codes "copy-" ++ decimal id) had.1) [
      | inl before ↦ before
      | inr same ↦ absurd (not (had.0, same))
    ],
  ),
)

-- or that of this one
one_copy : (ids : List ℕ) (names : List (List ℕ)) (name : List ℕ) (new id : ℕ) → NamesCopy new name
    → AreIdsOf ids names id → AreIdsOf (ids ++ new ∷ []) (names ++ name ∷ []) id
one_copy ids names name new id is was = (
  λ has. elim (Contains-push_cases ids new id has) [
    | inl before ↦
        let it = was.0 before in (it.0, Contains-append_left names (name ∷ []) (codes "copy-" ++ decimal id) it.1)
    | inr same ↦ (
      subst IsCopyId same is.0,
      subst (λ (n : List ℕ). Contains (names ++ name ∷ []) n) (is.1 ∙ ap (λ (k : ℕ). codes "copy-" ++ decimal k) same)
          (Contains-push names name),
    )
  ],
  λ had. elim (Contains-push_cases names name (codes "copy-" ++ decimal id) had.1) [
    | inl before ↦ Contains-append_left ids (new ∷ []) id (was.1 (had.0, before))
    | inr same ↦
        let digits : decimal new ≡ decimal id = ap (drop 5) (sym is.1 ∙ same) in
        let it : new ≡ id = decimal_injective new id (omega (arith, is.0.1)) (omega (arith, had.0.1)) digits in
        subst (λ (k : ℕ). Contains (ids ++ new ∷ []) k) it (Contains-push ids new)
  ],
)

-- the name of no copy is that of none
pub all_without : (ids : List ℕ) (names : List (List ℕ)) (name : List ℕ) → IsReadOf NamesCopy name None
    → ((id : ℕ) → AreIdsOf ids names id) → (id : ℕ) → AreIdsOf ids (names ++ name ∷ []) id
all_without ids names name not was = λ id. no_copy ids names name id (not id) (was id)

-- one with another first bytes than the name of a copy is none
pub is_no_copy : (name a : List ℕ) (i : ℕ) → name ≡ a → ((id : ℕ) → get_or a i 0 ≢ get_or (codes "copy-" ++ decimal id) i 0)
    → IsReadOf NamesCopy name None
is_no_copy name a i is apart = λ id it. differ name a (codes "copy-" ++ decimal id) i is (apart id) it.1

pub all_with : (ids now : List ℕ) (names : List (List ℕ)) (name : List ℕ) (new : ℕ) → NamesCopy new name
    → now ≡ ids ++ new ∷ [] → ((id : ℕ) → AreIdsOf ids names id) → (id : ℕ) → AreIdsOf now (names ++ name ∷ []) id
all_with ids now names name new is pushed was = λ id.
    subst (λ (all : List ℕ). AreIdsOf all (names ++ name ∷ []) id) (sym pushed) (one_copy ids names name new id is (was id))

-- a name of an unfinished file is kept, to go
pub unfinished_with : {A : Type 0} (old now : List (String A)) (name : String A) → now ≡ old ++ name ∷ []
    → All IsUnfinished (map string_bytes old) → IsUnfinished (string_bytes name) → All IsUnfinished (map string_bytes now)
unfinished_with {A} old now name pushed all is =
    subst (λ (names : List (String A)). All IsUnfinished (map string_bytes names)) (sym pushed)
    (subst (All IsUnfinished) (sym (map-append string_bytes old (name ∷ [])))
    (All-push IsUnfinished (map string_bytes old) (string_bytes name) all is))

-- ---- all names

-- the ids in another order
pub moved_ids : (old new : List ℕ) (names : List (List ℕ)) → IsPermutation old new → ((id : ℕ) → AreIdsOf old names id)
    → (id : ℕ) → AreIdsOf new names id
moved_ids old new names moved was = λ id. (
  λ has. (was id).0 (Contains-permutation new old id (IsPermutation-sym old new moved) has),
  λ had. Contains-permutation old new id moved ((was id).1 had),
)

-- what takes note of a text takes note of the same name
pub of_same : (text name : List ℕ) (old new : Inventory) → text ≡ name
    → ((names : List (List ℕ)) → TellsNames (Contains names) old → TellsNames (Contains (names ++ text ∷ [])) new)
    → (names : List (List ℕ)) → TellsNames (Contains names) old → TellsNames (Contains (names ++ name ∷ [])) new
of_same text name old new same noted names was =
    subst (λ (n : List ℕ). TellsNames (Contains (names ++ n ∷ [])) new) same (noted names was)
