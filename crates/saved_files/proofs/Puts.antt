-- A file that is made beside its name, and put in its place.
use Rattle.std.proofs.Common.{◌≡◌, ◌∙◌, ℕ, ◌+◌, inl, inr, List, [], ◌++◌, length, Bool, true, false, true≢false, refl, sym, ap, subst, arith}
use Rattle.std.proofs.Common.{length-append}
use Rattle.std.specs.Prelude.{◌≢◌, ◌⊎◌, codes, decimal, Option, Some, None, Result, Ok, Err, IfErr, OnOk, OnErr}
use Rattle.std.specs.Str.{bytes_eq}
use Rattle.std.proofs.lemmas.Slice.Eq.{bytes_eq-Decides}
use Rattle.saved_files.specs.declared.file_fault.FileFault.{FileFault}
use Rattle.saved_files.specs.declared.put_fault.PutFault.{PutFault}
use Rattle.saved_files.specs.declared.put_fault.PutFault.TheVariants.{Unmade, Unwritten, Unplaced}
use Rattle.saved_files.specs.declared.put_stored.PutStoredFault.{PutStoredFault}
use Rattle.saved_files.specs.declared.put_stored.PutStoredFault.TheVariants.{Unput, Unstored}
use Rattle.saved_files.specs.Folder.{Changes, Entries, IsBeside, IsMade, IsRemoved, IsRenamed, IsSame, IsSynced}
use Rattle.saved_files.specs.Folder.{KeepsBeside, KeepsName, KeepsOthers, Puts, PutsOrKeeps, RenamesOrKeeps, absent}
use Rattle.saved_files.specs.Placed.{IsPlaced, IsUnplaced, IsWhy, LeavesWritten}
use Rattle.saved_files.specs.PutFault.{IfUnmade, IsOfSource, LeavesPut, Writing, bytes_by}
use Rattle.saved_files.specs.PutStored.{IfNeverMade, IsUnstored, LeavesStored}

-- ---- what is known of a folder

-- two changes, one after the other
pub then : {P Q R : Entries → Entries → Type 0} (a b c : Option Entries)
    → ((old mid new : Entries) → P old mid → Q mid new → R old new) → Changes P a b → Changes Q b c → Changes R a c
then None None None both p q = tt
then None None (Some new) both p q = absurd q
then None (Some mid) c both p q = absurd p
then (Some old) None c both p q = absurd p
then (Some old) (Some mid) None both p q = absurd q
then (Some old) (Some mid) (Some new) both p q = both old mid new p q

-- a change that implies another one
pub so : {P Q : Entries → Entries → Type 0} (a b : Option Entries) → ((old new : Entries) → P old new → Q old new)
    → Changes P a b → Changes Q a b
so None None imply p = tt
so None (Some new) imply p = absurd p
so (Some old) None imply p = absurd p
so (Some old) (Some new) imply p = imply old new p

-- nothing changed
pub same_here : (a : Option Entries) → Changes IsSame a a
same_here None = tt
same_here (Some old) = λ n. refl

-- ---- the name beside a name

pub by_test : (a b : List ℕ) → (a ≡ b) ⊎ (a ≢ b)
by_test a b = go (bytes_eq a b) refl
  where
    go : (t : Bool) → bytes_eq a b ≡ t → (a ≡ b) ⊎ (a ≢ b)
    go true is = inl ((bytes_eq-Decides a b).0 is)
    go false is = inr (λ same. true≢false (sym ((bytes_eq-Decides a b).1 same) ∙ is))

-- is longer
pub is_apart : (name beside : List ℕ) → IsBeside name beside → beside ≢ name
is_apart name beside it = λ same.
    let more = codes ".unfinished-" ++ decimal it.0 in
    let longer : length beside ≡ length (name ++ more) = ap length it.1 in
    let first : length (name ++ more) ≡ length name + length more = length-append name more in
    let second : length more ≡ 12 + length (decimal it.0) = length-append (codes ".unfinished-") (decimal it.0) in
    let equal : length beside ≡ length name = ap length same in
    omega (arith, longer, first, second, equal)

-- ---- a file that comes to its name

-- synced and renamed
pub placed : (beside name : List ℕ) (contents : Option (List ℕ)) (a b c : Option Entries)
    → Changes (IsSynced beside contents) a b → Changes (IsRenamed beside name) b c
    → Changes (IsPlaced beside name contents) a c
placed beside name contents a b c = then a b c (λ old mid new synced renamed. record {
  bytes = synced.bytes;
  whole = synced.whole;
  put = renamed.moved ∙ synced.synced;
  left = renamed.left;
  others = λ n other away. renamed.others n other away ∙ synced.others n other;
})

-- synced, and not known to be renamed
pub stayed : (beside name : List ℕ) (contents : Option (List ℕ)) (a b c : Option Entries)
    → Changes (IsSynced beside contents) a b → Changes (RenamesOrKeeps beside name) b c
    → Changes (IsUnplaced beside name contents) a c
stayed beside name contents a b c = then a b c (λ old mid new synced either. elim either [
  | inl renamed ↦ record {
    either = λ apart. inl (synced.bytes, synced.whole, renamed.moved ∙ synced.synced);
    others = λ n other away. renamed.others n other away ∙ synced.others n other;
  }
  | inr same ↦ record {
    either = λ apart. inr (same name ∙ synced.others name (λ equal. apart (sym equal)));
    others = λ n other away. same n ∙ synced.others n other;
  }
])

-- not synced
pub unsynced_left : (beside name : List ℕ) (contents : Option (List ℕ)) (a b : Option Entries)
    → Changes (KeepsOthers beside) a b → Changes (IsUnplaced beside name contents) a b
unsynced_left beside name contents a b = so a b (λ old new kept. record {
  either = λ apart. inr (kept name (λ equal. apart (sym equal)));
  others = λ n other away. kept n other;
})

-- ---- what is put in its place

-- what went out to a file that had no bytes
pub same_start : (gives : Writing) (empty last held : Option (List ℕ)) → empty ≡ Some [] → held ≡ last
    → gives empty last → gives (Some []) held
same_start gives empty last held none same it =
    subst (λ h. gives (Some []) h) (sym same) (subst (λ e. gives e last) none it)

-- made, and given up
beside_kept : (name beside : List ℕ) → IsBeside name beside → (old new : Entries) → old beside ≡ absent
    → ((n : List ℕ) → n ≢ beside → n ≢ name → new n ≡ old n) → KeepsBeside name old new
beside_kept name beside is old new fresh others = λ n apart. elim (by_test n beside) [
  | inl same ↦ inr (ap old same ∙ fresh, (is.0, same ∙ is.1))
  | inr other ↦ inl (others n other apart)
]

pub kept_name : (name beside : List ℕ) (empty : Option (List ℕ)) → IsBeside name beside → (old mid new : Entries)
    → IsMade beside empty old mid → KeepsOthers beside mid new → KeepsName name old new
kept_name name beside empty is old mid new made kept =
    let apart : name ≢ beside = λ equal. is_apart name beside is (sym equal) in (
      kept name apart ∙ made.others name apart,
      beside_kept name beside is old new made.fresh (λ n other away. kept n other ∙ made.others n other),
    )

-- made, written and placed
pub placed_put : (name beside : List ℕ) (empty held : Option (List ℕ)) → IsBeside name beside → (old mid new : Entries)
    → IsMade beside empty old mid → IsPlaced beside name held mid new → Puts name (λ bytes. held ≡ Some bytes) old new
placed_put name beside empty held is old mid new made placed = record {
  bytes = placed.bytes;
  right = placed.whole;
  put = placed.put;
  others = λ n apart. elim (by_test n beside) [
    | inl equal ↦ ap new equal ∙ placed.left (is_apart name beside is) ∙ sym made.fresh ∙ ap old (sym equal)
    | inr other ↦ placed.others n other apart ∙ made.others n other
  ];
}

-- made, written, and perhaps not placed
pub unplaced_put : (name beside : List ℕ) (empty held : Option (List ℕ)) → IsBeside name beside
    → (old mid new : Entries) → IsMade beside empty old mid → IsUnplaced beside name held mid new
    → PutsOrKeeps name (λ bytes. held ≡ Some bytes) old new
unplaced_put name beside empty held is old mid new made it = record {
  either = elim (it.either (is_apart name beside is)) [
    | inl new ↦ inl new
    | inr stays ↦ inr (stays ∙ made.others name (λ equal. is_apart name beside is (sym equal)))
  ];
  others = beside_kept name beside is old new made.fresh (λ n other away. it.others n other away ∙ made.others n other);
}

-- given up, too
pub then_gone : (beside name : List ℕ) (held : Option (List ℕ)) (old mid new : Entries)
    → IsUnplaced beside name held old mid → KeepsOthers beside mid new → IsUnplaced beside name held old new
then_gone beside name held old mid new left kept = record {
  either = λ apart. elim (left.either apart) [
    | inl it ↦ inl (it.0, it.1, kept name (λ equal. apart (sym equal)) ∙ it.2)
    | inr it ↦ inr (kept name (λ equal. apart (sym equal)) ∙ it)
  ];
  others = λ n other away. kept n other ∙ left.others n other away;
}

-- a file is given up, whether that went well or not
pub given_up : {X Y : Type 0} (name : List ℕ) (a b : Option Entries) (r : Result X Y)
    → OnOk r (Changes (IsRemoved name) a b) → OnErr r (Changes (KeepsOthers name) a b)
    → Changes (KeepsOthers name) a b
given_up name a b (Ok x) ok err = so a b (λ old new it. it.others) ok
given_up name a b (Err e) ok err = err

-- ---- a file that was made, written, and put in its place or not

-- all was written
pub wrote : {E : Type 0} (P : Type 0) (done : Result (Unit {0}) E) → done ≡ Ok tt → OnOk done P → P
wrote P done is it = subst (λ d. OnOk d P) is it

-- it was not
pub wrote_not : {E : Type 0} (P : E → Type 0) (done : Result (Unit {0}) E) (why : E) → done ≡ Err why → IfErr done P → P why
wrote_not P done why is it = subst (λ d. IfErr d P) is it

put : (name beside : List ℕ) (gives : Writing) (empty last held : Option (List ℕ))
    (a b c : Option Entries) → IsBeside name beside → gives empty last → held ≡ last → Changes (IsMade beside empty) a b
    → Changes (IsPlaced beside name held) b c → Changes (Puts name (bytes_by gives)) a c
put name beside gives empty last held a b c is how same =
    then a b c (λ (old mid new : Entries) (made : IsMade beside empty old mid) (placed : IsPlaced beside name held mid new).
    let it = placed_put name beside empty held is old mid new made placed in record {
      bytes = it.bytes;
      right = subst (λ h. gives (Some []) h) it.right (same_start gives empty last held made.empty same how);
      put = it.put;
      others = it.others;
    })

pub put_by : {E X : Type 0} (name beside : List ℕ) (gives : Writing) (empty last held : Option (List ℕ))
    (a b c : Option Entries) (done : Result (Unit {0}) E) (r : Result X (PutFault E)) → IsBeside name beside
    → OnOk done (gives empty last) → held ≡ last → Changes (IsMade beside empty) a b
    → OnOk r (Changes (IsPlaced beside name held) b c) → OnOk r (done ≡ Ok tt)
    → OnOk r (Changes (Puts name (bytes_by gives)) a c)
put_by name beside gives empty last held a b c done (Err fault) is how same made placed whole = tt
put_by name beside gives empty last held a b c done (Ok x) is how same made placed whole =
    put name beside gives empty last held a b c is (wrote (gives empty last) done whole how) same made placed

-- not written to its end, and given up
unwritten : {E : Type 0} (name beside : List ℕ) (gives : Writing) (leaves : E → Writing) (why : E)
    (empty last held before given : Option (List ℕ)) (a b c : Option Entries) → IsBeside name beside
    → leaves why empty last → held ≡ last → given ≡ held → Changes (IsMade beside empty) a b
    → Changes (KeepsOthers beside) b c → Changes (LeavesPut name gives leaves before given (Unwritten why)) a c
unwritten name beside gives leaves why empty last held before given a b c is how same up =
    then a b c (λ (old mid new : Entries) (made : IsMade beside empty old mid) (kept : KeepsOthers beside mid new).
    let it = kept_name name beside empty is old mid new made kept in (
      it.0,
      it.1,
      subst (λ g. leaves why (Some []) g) (sym up) (same_start (leaves why) empty last held made.empty same how),
    ))

-- not placed, and given up
unplaced : {E : Type 0} (name beside : List ℕ) (gives : Writing) (leaves : E → Writing) (why : FileFault)
    (empty last held before given : Option (List ℕ)) (a b c : Option Entries) → IsBeside name beside
    → gives empty last → held ≡ last → given ≡ held → Changes (IsMade beside empty) a b
    → Changes (IsUnplaced beside name held) b c → Changes (LeavesPut name gives leaves before given (Unplaced why)) a c
unplaced name beside gives leaves why empty last held before given a b c is how same up =
    then a b c (λ (old mid new : Entries) (made : IsMade beside empty old mid) (it : IsUnplaced beside name held mid new).
    let all : gives (Some []) held = same_start gives empty last held made.empty same how in
    let put = unplaced_put name beside empty held is old mid new made it in (
      record {
        either = elim put.either [
          | inl new ↦ inl (new.0, subst (λ h. gives (Some []) h) new.1 all, new.2)
          | inr stays ↦ inr stays
        ];
        others = put.others;
      },
      subst (λ g. gives (Some []) g) (sym up) all,
    ))

left : {E : Type 0} (name beside : List ℕ) (gives : Writing) (leaves : E → Writing)
    (empty last held before given : Option (List ℕ)) (a b c : Option Entries) (done : Result (Unit {0}) E)
    (fault : PutFault E) → IsBeside name beside → OnOk done (gives empty last)
    → IfErr done (λ why. leaves why empty last) → held ≡ last → Changes (IsMade beside empty) a b → given ≡ held
    → IsWhy done fault → Changes (LeavesWritten beside name held fault) b c
    → Changes (LeavesPut name gives leaves before given fault) a c
left name beside gives leaves empty last held before given a b c done (Unmade why) is how hows same made up whole it =
    absurd whole
left name beside gives leaves empty last held before given a b c done (Unwritten why) is how hows same made up whole it =
    unwritten name beside gives leaves why empty last held before given a b c is
    (wrote_not (λ e. leaves e empty last) done why whole hows) same up made it
left name beside gives leaves empty last held before given a b c done (Unplaced why) is how hows same made up whole it =
    unplaced name beside gives leaves why empty last held before given a b c is
    (wrote (gives empty last) done whole.0 how) same up made it

pub left_by : {E X : Type 0} (name beside : List ℕ) (gives : Writing) (leaves : E → Writing)
    (empty last held before given : Option (List ℕ)) (a b c : Option Entries) (done : Result (Unit {0}) E)
    (r : Result X (PutFault E)) → IsBeside name beside → OnOk done (gives empty last)
    → IfErr done (λ why. leaves why empty last) → held ≡ last → Changes (IsMade beside empty) a b
    → OnErr r (given ≡ held) → IfErr r (IsWhy done)
    → IfErr r (λ fault. Changes (LeavesWritten beside name held fault) b c)
    → IfErr r (λ fault. Changes (LeavesPut name gives leaves before given fault) a c)
left_by name beside gives leaves empty last held before given a b c done (Ok x) is how hows same made up whole it = tt
left_by name beside gives leaves empty last held before given a b c done (Err fault) is how hows same made up whole it =
    left name beside gives leaves empty last held before given a b c done fault is how hows same made up whole it

-- the fault is of the source
of_source : {E : Type 0} (leaves : E → Writing) (empty last : Option (List ℕ)) (done : Result (Unit {0}) E)
    (fault : PutFault E) → IfErr done (λ why. leaves why empty last) → IsWhy done fault → IsOfSource leaves fault
of_source leaves empty last done (Unmade why) hows whole = absurd whole
of_source leaves empty last done (Unwritten why) hows whole =
    (empty, (last, wrote_not (λ e. leaves e empty last) done why whole hows))
of_source leaves empty last done (Unplaced why) hows whole = whole.1

pub of_source_by : {E X : Type 0} (leaves : E → Writing) (empty last : Option (List ℕ)) (done : Result (Unit {0}) E)
    (r : Result X (PutFault E)) → IfErr done (λ why. leaves why empty last) → IfErr r (IsWhy done)
    → IfErr r (IsOfSource leaves)
of_source_by leaves empty last done (Ok x) hows whole = tt
of_source_by leaves empty last done (Err fault) hows whole = of_source leaves empty last done fault hows whole

-- ---- a file whose name may not last

-- put in its place, and the names synced
same_put : (name : List ℕ) (fits : List ℕ → Type 0) (a b c : Option Entries) → Changes (Puts name fits) a b
    → Changes IsSame b c → Changes (Puts name fits) a c
same_put name fits a b c = then a b c (λ old mid new put same. record {
  bytes = put.bytes;
  right = put.right;
  put = same name ∙ put.put;
  others = λ n apart. same n ∙ put.others n apart;
})

pub unstored_by : {E X : Type 0} (name : List ℕ) (gives : Writing) (leaves : E → Writing)
    (before given : Option (List ℕ)) (a b c : Option Entries) (r : Result X (PutStoredFault E))
    → Changes (Puts name (bytes_by gives)) a b → Changes IsSame b c → IfErr r IsUnstored
    → IfErr r (λ fault. Changes (LeavesStored name gives leaves before given fault) a c)
unstored_by name gives leaves before given a b c (Ok x) put same it = tt
unstored_by name gives leaves before given a b c (Err (Unput why)) put same it = absurd it
unstored_by name gives leaves before given a b c (Err (Unstored why)) put same it =
    same_put name (bytes_by gives) a b c put same

-- ---- a file that was made

was_made : {E : Type 0} (fact : Type 0) (done : Result (Unit {0}) E) (fault : PutFault E) → IsWhy done fault
    → IfUnmade fact fault
was_made fact done (Unmade why) it = absurd it
was_made fact done (Unwritten why) it = tt
was_made fact done (Unplaced why) it = tt

pub was_made_by : {E X : Type 0} (fact : Type 0) (done : Result (Unit {0}) E) (r : Result X (PutFault E))
    → IfErr r (IsWhy done) → IfErr r (IfUnmade fact)
was_made_by fact done (Ok x) it = tt
was_made_by fact done (Err fault) it = was_made fact done fault it

pub was_placed_by : {E X : Type 0} (fact : Type 0) (r : Result X (PutStoredFault E)) → IfErr r IsUnstored
    → IfErr r (IfNeverMade fact)
was_placed_by fact (Ok x) it = tt
was_placed_by fact (Err (Unput why)) it = absurd it
was_placed_by fact (Err (Unstored why)) it = tt
