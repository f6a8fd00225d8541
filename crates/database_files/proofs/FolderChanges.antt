-- How the names of a folder keep what stood under them, from change to change.
use Rattle.std.proofs.Common.{◌≡◌, ◌∙◌, ℕ, List, ap, inl, inr, refl, subst, sym}
use Rattle.std.specs.Prelude.{codes, Err, IfErr, IfSome, None, Ok, OnOk, Option, Result, Some}
use Rattle.std.specs.Io.{StartsWith}
use Rattle.std.specs.List.{All, Contains}
use Rattle.saved_files.specs.Folder.{Changes, Entries, IsSame, KeepsBeside, KeepsOthers, Puts}
use Rattle.saved_files.specs.Folder.{HasNewOrOld, PutsOrKeeps, absent}
use Rattle.saved_files.specs.Saved.{name_of}
use Rattle.saved_files.specs.declared.saved_name.SavedName.TheVariants as saved
use Rattle.database_files.specs.Standing.{AddsCopies, AddsFiles}
use Rattle.database_files.specs.Standing.{KeepsBut}
use Rattle.database_files.specs.MovedAside.{IsCleared, IsFreed, PutsAside}
use Rattle.database_files.specs.Standing.{IsUnfinished, KeepsAllBut, KeepsFinished}
use Rattle.database_files.proofs.SecondNames.{beside_unfinished, by_test, copy_starts}
use Rattle.database_files.proofs.SecondNames.{log_manifest, manifest_finished}
use Rattle.database_files.proofs.SecondNames.{manifest_no_copy, master_manifest}

-- ---- changes of a folder

-- what was freed was cleared
pub cleared_by : (name : List ℕ) (old new : Option Entries) (is_kept is_stored : Type 0) → (is_kept → new ≡ old)
    → IsFreed name old new is_kept is_stored → IsCleared name old new
cleared_by name old new is_kept is_stored same (inl free) = inl (free.0, same free.1)
cleared_by name old new is_kept is_stored same (inr moved) = inr moved.0

-- a change that implies another one
pub so : {P Q : Entries → Entries → Type 0} (a b : Option Entries) → ((old new : Entries) → P old new → Q old new)
    → Changes P a b → Changes Q a b
so None None imply p = tt
so None (Some new) imply p = absurd p
so (Some old) None imply p = absurd p
so (Some old) (Some new) imply p = imply old new p

-- a file is put where what was wrong there was cleared
pub puts_aside : {T E : Type 0} (r : Result T E) (is_wrong : Type 0) (name : List ℕ) (fits : List ℕ → Type 0)
    (old mid new : Option Entries) → (is_wrong → IsCleared name old mid) → (¬ is_wrong → mid ≡ old)
    → OnOk r (Changes (Puts name fits) mid new) → OnOk r (PutsAside is_wrong name fits old new)
puts_aside (Ok x) is_wrong name fits old mid new cleared kept put =
    record { mid = mid; cleared = cleared; kept = kept; put = put }
puts_aside (Err why) is_wrong name fits old mid new cleared kept put = tt

-- two changes, one after the other
pub then : {P Q R : Entries → Entries → Type 0} (a b c : Option Entries)
    → ((old mid new : Entries) → P old mid → Q mid new → R old new) → Changes P a b → Changes Q b c → Changes R a c
then None None None both p q = tt
then None None (Some new) both p q = absurd q
then None (Some mid) c both p q = absurd p
then (Some old) None c both p q = absurd p
then (Some old) (Some mid) None both p q = absurd q
then (Some old) (Some mid) (Some new) both p q = both old mid new p q

-- two things that hold of one change
pub both : {P Q R : Entries → Entries → Type 0} (a b : Option Entries)
    → ((old new : Entries) → P old new → Q old new → R old new) → Changes P a b → Changes Q a b → Changes R a b
both None None all p q = tt
both None (Some new) all p q = absurd p
both (Some old) None all p q = absurd p
both (Some old) (Some new) all p q = all old new p q

-- what is known of the folder before
pub given : {P : Entries → Type 0} {Q R : Entries → Entries → Type 0} (a b : Option Entries)
    → ((old new : Entries) → P old → Q old new → R old new) → IfSome a P → Changes Q a b → Changes R a b
given None None all p q = tt
given None (Some new) all p q = absurd q
given (Some old) None all p q = absurd q
given (Some old) (Some new) all p q = all old new p q

-- and of it after
pub known_after : {P Q : Entries → Type 0} {R : Entries → Entries → Type 0} (a b : Option Entries)
    → ((old new : Entries) → P old → R old new → Q new) → IfSome a P → Changes R a b → IfSome b Q
known_after a None all p r = tt
known_after None (Some new) all p r = absurd r
known_after (Some old) (Some new) all p r = all old new p r

-- nothing changed
pub same_here : (a : Option Entries) → Changes IsSame a a
same_here None = tt
same_here (Some old) = λ n. refl

pub same_then : (a b c : Option Entries) → Changes IsSame a b → Changes IsSame b c → Changes IsSame a c
same_then a b c = then a b c (λ old mid new p q n. q n ∙ p n)

-- what was left as it was behind that
pub refused_in : {T E : Type 0} (r : Result T E) (is : E → Type 0) (a b c : Option Entries) → Changes IsSame a b
    → IfErr r (λ why. is why → Changes IsSame b c) → IfErr r (λ why. is why → Changes IsSame a c)
refused_in (Ok x) is a b c same left = tt
refused_in (Err why) is a b c same left = λ it. same_then a b c same (left it)

-- what follows where a call ended well
pub on_ok : {T E A B : Type 0} (r : Result T E) → (A → B) → OnOk r A → OnOk r B
on_ok (Ok x) imply a = imply a
on_ok (Err why) imply a = tt

pub on_ok_all : {T E A B C D : Type 0} (r : Result T E) → (A → B → C → D) → OnOk r A → OnOk r B → OnOk r C → OnOk r D
on_ok_all (Ok x) imply a b c = imply a b c
on_ok_all (Err why) imply a b c = tt

-- ---- names that keep what stood under them

pub kept_beside : (name : List ℕ) (old new : Entries) → KeepsBeside name old new → KeepsBut name old new
kept_beside name old new kept n apart whole = elim (kept n apart) [
  | inl same ↦ same
  | inr beside ↦ absurd (whole (beside_unfinished name n beside.1))
]

pub kept_put : (name : List ℕ) (fits : List ℕ → Type 0) (a b : Option Entries) → Changes (Puts name fits) a b
    → Changes (KeepsBut name) a b
kept_put name fits a b = so a b (λ old new put n apart whole. put.others n apart)

pub kept_left : (name : List ℕ) (fits : List ℕ → Type 0) (a b : Option Entries) → Changes (PutsOrKeeps name fits) a b
    → Changes (KeepsBut name) a b
kept_left name fits a b = so a b (λ old new left. kept_beside name old new left.others)

-- a file that is not whole is removed
pub removed : (name : List ℕ) (a b : Option Entries) → IsUnfinished name → Changes (KeepsOthers name) a b
    → Changes KeepsFinished a b
removed name a b unfinished = so a b (λ old new kept n whole.
    kept n (λ same. whole (subst IsUnfinished (sym same) unfinished)))

-- a file of one of these names is removed
pub removed_more : (names : List (List ℕ)) (name : List ℕ) (a b c : Option Entries) → Contains names name
    → Changes (KeepsAllBut names) a b → Changes (KeepsOthers name) b c → Changes (KeepsAllBut names) a c
removed_more names name a b c has = then a b c (λ old mid new p q n none.
    q n (λ same. none (subst (Contains names) (sym same) has)) ∙ p n none)

pub none_removed : (names : List (List ℕ)) (a : Option Entries) → Changes (KeepsAllBut names) a a
none_removed names None = tt
none_removed names (Some old) = λ n none. refl

-- files that are not whole are removed
pub all_removed : (names : List (List ℕ)) (a b : Option Entries) → IfSome a (λ there. All IsUnfinished names)
    → Changes (KeepsAllBut names) a b → Changes KeepsFinished a b
all_removed names a b = given a b (λ old new unfinished kept n whole.
    kept n (λ has. whole (subst IsUnfinished has.2 (unfinished has.0 n has.1))))

pub finished_more : (a b c : Option Entries) → Changes KeepsFinished a b → Changes KeepsFinished b c
    → Changes KeepsFinished a c
finished_more a b c = then a b c (λ old mid new p q n whole. q n whole ∙ p n whole)

-- the name has the new file, or what it had
pub left_either : (name : List ℕ) (fits : List ℕ → Type 0) (a b : Option Entries) → Changes (PutsOrKeeps name fits) a b
    → Changes (HasNewOrOld name fits) a b
left_either name fits a b = so a b (λ old new left. left.either)

-- nothing is added
pub adds_none : (a b : Option Entries) → Changes IsSame a b → Changes AddsCopies a b
adds_none a b = so a b (λ old new same n whole. inl (same n))

pub adds_more : (a b c : Option Entries) → Changes AddsCopies a b → Changes AddsCopies b c → Changes AddsCopies a c
adds_more a b c = then a b c (λ old mid new p q n whole. elim (p n whole) [
  | inr none ↦ inr none
  | inl same ↦ elim (q n whole) [
    | inl kept ↦ inl (kept ∙ same)
    | inr none ↦ inr (sym same ∙ none.0, none.1)
  ]
])

-- a copy is put where nothing stood
pub adds_one : (id : ℕ) (a b : Option Entries) → IfSome a (λ it. it (name_of (saved.Copy id)) ≡ absent)
    → Changes (KeepsBut (name_of (saved.Copy id))) a b → Changes AddsCopies a b
adds_one id a b = given a b (λ old new none kept n whole. elim (by_test n (name_of (saved.Copy id))) [
  | inl same ↦ inr (ap old same ∙ none, subst (λ m. StartsWith m (codes "copy-")) (sym same) (copy_starts id))
  | inr apart ↦ inl (kept n apart whole)
])

files_more : (old mid new : Entries) → AddsFiles old mid → AddsFiles mid new → AddsFiles old new
files_more old mid new p q n log master whole = elim (p n log master whole) [
  | inr none ↦ inr none
  | inl same ↦ elim (q n log master whole) [
    | inl kept ↦ inl (kept ∙ same)
    | inr none ↦ inr (sym same ∙ none.0, none.1)
  ]
]

pub adds_then : (a b c : Option Entries) → Changes AddsFiles a b → Changes AddsFiles b c → Changes AddsFiles a c
adds_then a b c = then a b c files_more

pub adds_log : (a b : Option Entries) → Changes (KeepsBut (name_of saved.Log)) a b → Changes AddsFiles a b
adds_log a b = so a b (λ old new kept n log master whole. inl (kept n log whole))

pub adds_master : (a b : Option Entries) → Changes (KeepsBut (name_of saved.Master)) a b → Changes AddsFiles a b
adds_master a b = so a b (λ old new kept n log master whole. inl (kept n master whole))

pub adds_copies : (a b : Option Entries) → Changes AddsCopies a b → Changes AddsFiles a b
adds_copies a b = so a b (λ old new adds n log master whole. adds n whole)

pub keeps_manifest : (old new : Entries) → AddsFiles old new → new (codes "manifest") ≡ old (codes "manifest")
keeps_manifest old new adds = elim (adds (codes "manifest") (λ same. log_manifest (sym same))
    (λ same. master_manifest (sym same)) manifest_finished) [
      | inl same ↦ same
      | inr none ↦ absurd (manifest_no_copy none.1)
    ]
