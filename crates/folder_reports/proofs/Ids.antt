-- The ids of copies, by the names of their files.
use Rattle.std.proofs.Common.{◌≡◌, ◌++◌, [], ◌∷◌, ◌∙◌, ℕ, List, ap, arith, drop, inl, inr, IsPermutation, subst, sym}
use Rattle.std.specs.Prelude.{decimal, None, Option, Some}
use Rattle.std.specs.List.{Contains}
use Rattle.std.proofs.lemmas.Fmt.{decimal_injective}
use Rattle.std.proofs.lemmas.List.Sorted.{Contains-permutation}
use Rattle.std.proofs.lemmas.List.Elements.{Contains-append_left, Contains-push, Contains-push_cases}
use Rattle.database_files.specs.DatabaseFolder.{ListsAll}
use Rattle.database_files.specs.Found.{IsCopyId, IsReadOf, NamesCopy}
use Rattle.saved_files.specs.Folder.{Entries}
use Rattle.saved_files.specs.Saved.{name_of}
use Rattle.saved_files.specs.declared.saved_name.SavedName.TheVariants.{Copy}
use Rattle.folder_reports.specs.Sound.{ListsCopies}

-- each copy whose name is among these has its id among those
abbrev pub HasIds : List ℕ → List (List ℕ) → Type 0
HasIds ids names = (id : ℕ) → IsCopyId id → Contains names (name_of (Copy id)) → Contains ids id

pub none_yet : (ids : List ℕ) → HasIds ids []
none_yet ids = λ id is has. absurd (omega (arith, has.1))

-- the name of no copy
pub without : (ids : List ℕ) (names : List (List ℕ)) (name : List ℕ) → IsReadOf NamesCopy name None
    → HasIds ids names → HasIds ids (names ++ name ∷ [])
without ids names name not was = λ id is has. elim (Contains-push_cases names name (name_of (Copy id)) has) [
  | inl before ↦ was id is before
  | inr same ↦ absurd (not id (is, same))
]

-- or that of one
pub with_one : (ids now : List ℕ) (names : List (List ℕ)) (name : List ℕ) (new : ℕ) → NamesCopy new name
    → now ≡ ids ++ new ∷ [] → HasIds ids names → HasIds now (names ++ name ∷ [])
with_one ids now names name new named pushed was = λ id is has.
    subst (λ (all : List ℕ). Contains all id) (sym pushed)
    (elim (Contains-push_cases names name (name_of (Copy id)) has) [
      | inl before ↦ Contains-append_left ids (new ∷ []) id (was id is before)
      | inr same ↦
          let digits : decimal new ≡ decimal id = ap (drop 5) (sym named.1 ∙ same) in
          let it : new ≡ id = decimal_injective new id (omega (arith, named.0.1)) (omega (arith, is.1)) digits in
          subst (λ (k : ℕ). Contains (ids ++ new ∷ []) k) it (Contains-push ids new)
    ])

-- the ids in another order
pub moved : (old new : List ℕ) (names : List (List ℕ)) → IsPermutation old new → HasIds old names → HasIds new names
moved old new names order was = λ id is has. Contains-permutation old new id order (was id is has)

pub listed : (entries : Option Entries) (names : List (List ℕ)) (ids : List ℕ) → ListsAll entries names
    → HasIds ids names → ListsCopies entries ids
listed None names ids all has = tt
listed (Some there) names ids all has = λ id is had. has id is ((all (name_of (Copy id))).0 had)
