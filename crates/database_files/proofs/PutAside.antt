-- Files that an opening keeps, under their names or under others.
use Rattle.std.proofs.Common.{◌≡◌, ◌∙◌, ◌++◌, ℕ, List, [], ap, append-nil, arith, false, get_or, inl, inr, refl, subst, sym, true, true≢false}
use Rattle.std.specs.Prelude.{◌≢◌, Bool, codes, decimal, IfSome, None, Option, Some}
use Rattle.saved_files.specs.Folder.{Changes, Entries, IsRenamed, IsSame, KeepsOthers, RenamesOrKeeps}
use Rattle.saved_files.specs.Saved.{name_of}
use Rattle.saved_files.specs.declared.saved_name.SavedName.TheVariants as saved
use Rattle.database_files.specs.Closed.{IsWithoutNote, KeepsNote}
use Rattle.database_files.specs.DatabaseFolder.{Tells}
use Rattle.database_files.specs.MovedAside.{IsAside, IsFree, KeepsOrMoves, KeepsOrPutsAside, MayKnowMore, file_name_of}
use Rattle.database_files.specs.Found.{HasNoOrphan}
use Rattle.database_files.specs.Standing.{IsLeftAlone, KeepsFiles, KeepsFinished}
use Rattle.database_files.specs.declared.evidence.Witness.{Witness}
use Rattle.database_files.specs.declared.evidence.Witness.TheVariants as witness
use Rattle.database_files.proofs.FolderChanges.{given, so, then}
use Rattle.database_files.proofs.SecondNames.{a_dot, an_h, by_test, digits_plain, has, has_behind, has_in_none, is_finished, is_whole}

-- ---- a file that may know of more, and its other name

-- its name is none of those that an opening makes anew, and has neither a dot nor an h
record IsPlainName (n : List ℕ) : Type 0 where
  pub log : (rest : List ℕ) → n ++ rest ≢ codes "log"
  pub volume : (rest : List ℕ) → n ++ rest ≢ codes "volume"
  pub closed : (rest : List ℕ) → n ++ rest ≢ codes "closed"
  pub dots : has 46 n ≡ false
  pub letters : has 104 n ≡ false

plain_manifest : IsPlainName (codes "manifest")
plain_manifest = record {
  log = λ rest same. let heads : 109 ≡ 108 = ap (λ (n : List ℕ). get_or n 0 0) same in absurd (omega (arith, heads));
  volume = λ rest same. let heads : 109 ≡ 118 = ap (λ (n : List ℕ). get_or n 0 0) same in absurd (omega (arith, heads));
  closed = λ rest same. let heads : 109 ≡ 99 = ap (λ (n : List ℕ). get_or n 0 0) same in absurd (omega (arith, heads));
  dots = refl;
  letters = refl;
}

plain_master : IsPlainName (codes "master")
plain_master = record {
  log = λ rest same. let heads : 109 ≡ 108 = ap (λ (n : List ℕ). get_or n 0 0) same in absurd (omega (arith, heads));
  volume = λ rest same. let heads : 109 ≡ 118 = ap (λ (n : List ℕ). get_or n 0 0) same in absurd (omega (arith, heads));
  closed = λ rest same. let heads : 109 ≡ 99 = ap (λ (n : List ℕ). get_or n 0 0) same in absurd (omega (arith, heads));
  dots = refl;
  letters = refl;
}

plain_copy : (id : ℕ) → IsPlainName (name_of (saved.Copy id))
plain_copy id = record {
  log = λ rest same. let heads : 99 ≡ 108 = ap (λ (n : List ℕ). get_or n 0 0) same in absurd (omega (arith, heads));
  volume = λ rest same. let heads : 99 ≡ 118 = ap (λ (n : List ℕ). get_or n 0 0) same in absurd (omega (arith, heads));
  closed = λ rest same. let next : 111 ≡ 108 = ap (λ (n : List ℕ). get_or n 1 0) same in absurd (omega (arith, next));
  dots = digits_plain 46 id a_dot;
  letters = digits_plain 104 id an_h;
}

IsPlainOption : Option (List ℕ) → Type 0
IsPlainOption None = ⊥
IsPlainOption (Some n) = IsPlainName n

some_name : (a b : List ℕ) → Some a ≡ Some b → IsPlainName a → IsPlainName b
unfolding IsPlainOption
some_name a b same plain = subst (λ (o : Option (List ℕ)). IsPlainOption o) same plain

IsNothing : Option (List ℕ) → Type 0
IsNothing None = Unit {0}
IsNothing (Some n) = ⊥

no_name : (n : List ℕ) → None ≢ Some n
unfolding IsNothing
no_name n same = subst (λ (o : Option (List ℕ)). IsNothing o) same tt

plain_name : (n : List ℕ) → MayKnowMore n → IsPlainName n
plain_name n it = go it.0 it.1
  where
    go : (w : Witness) → file_name_of w ≡ Some n → IsPlainName n
    go witness.Closed same = absurd (no_name n same)
    go witness.Manifest same = some_name _ n same plain_manifest
    go witness.Changed same = some_name _ n same plain_manifest
    go witness.Master same = some_name _ n same plain_master
    go (witness.Begin id) same = some_name _ n same (plain_copy id)
    go (witness.Page id page) same = some_name _ n same (plain_copy id)
    go witness.Record same = absurd (no_name n same)

-- what comes behind its name in that of a refused file
IsMark : List ℕ → Type 0
IsMark rest = (has 46 rest ≡ true) × (has 104 rest ≡ false)

marked : (name aside : List ℕ) → IsAside name aside → (rest : List ℕ) × (aside ≡ name ++ rest) × IsMark rest
unfolding IsMark
marked name aside (inl same) = (codes ".refused", same, (refl, refl))
marked name aside (inr numbered) =
    (codes ".refused-" ++ decimal numbered.0, numbered.1, (refl, digits_plain 104 numbered.0 an_h))

aside_left_alone : (n aside : List ℕ) → MayKnowMore n → IsAside n aside → IsLeftAlone aside
unfolding IsMark
aside_left_alone n aside may is =
    let plain = plain_name n may in
    let mark = marked n aside is in
    subst IsLeftAlone (sym mark.1) (record {
      log = plain.log mark.0;
      volume = plain.volume mark.0;
      closed = plain.closed mark.0;
      whole = is_whole (n ++ mark.0) (has_in_none 104 n mark.0 plain.letters mark.2.1);
    })

-- no file that may know of more has the name of a refused one
aside_apart : (n aside name : List ℕ) → IsAside n aside → MayKnowMore name → aside ≢ name
unfolding IsMark
aside_apart n aside name is may same =
    let mark = marked n aside is in
    true≢false (sym (has_behind 46 n mark.0 mark.2.0) ∙ ap (has 46) (sym mark.1 ∙ same) ∙ (plain_name name may).dots)

-- ---- each file is kept or put aside

pub puts_none : (a b : Option Entries) → Changes KeepsFiles a b → Changes KeepsOrPutsAside a b
puts_none a b = so a b (λ old new kept n alone had. inl (kept n alone had))

pub stays_here : (a : Option Entries) → Changes KeepsOrPutsAside a a
stays_here None = tt
stays_here (Some old) = λ n alone had. inl refl

-- one file gets another name
pub puts_one : (name : List ℕ) (a b : Option Entries) → MayKnowMore name → Changes (KeepsOrMoves name) a b
    → Changes KeepsOrPutsAside a b
puts_one name a b may = so a b (λ old new moves n alone had. elim moves [
  | inl same ↦ inl (same n)
  | inr moved ↦ elim (by_test n name) [
    | inl it ↦ inr (
      subst MayKnowMore (sym it) may,
      moved.0,
      subst (λ (m : List ℕ). IsAside m moved.0) (sym it) moved.1,
      moved.3.moved ∙ ap old (sym it),
    )
    | inr apart ↦ inl (moved.3.others n apart (λ it. had (ap old it ∙ moved.2)))
  ]
])

kept_still : (old mid new : Entries) → KeepsOrPutsAside old mid → KeepsOrPutsAside mid new → KeepsOrPutsAside old new
kept_still old mid new p q n alone had = elim (p n alone had) [
  | inl same ↦ elim (q n alone (λ none. had (sym same ∙ none))) [
    | inl again ↦ inl (again ∙ same)
    | inr moved ↦ inr (moved.0, moved.1, moved.2, moved.3 ∙ same)
  ]
  | inr moved ↦ elim (q moved.1 (aside_left_alone n moved.1 moved.0 moved.2) (λ none. had (sym moved.3 ∙ none))) [
    | inl again ↦ inr (moved.0, moved.1, moved.2, again ∙ moved.3)
    | inr further ↦ absurd (aside_apart n moved.1 moved.1 moved.2 further.0 refl)
  ]
]

-- one after another
pub puts_more : (a b c : Option Entries) → Changes KeepsOrPutsAside a b → Changes KeepsOrPutsAside b c
    → Changes KeepsOrPutsAside a c
puts_more a b c = then a b c kept_still

-- ---- a file that is moved, or not

pub moves_none : (name : List ℕ) (a : Option Entries) → Changes (KeepsOrMoves name) a a
moves_none name None = tt
moves_none name (Some old) = inl (λ n. refl)

pub moves_same : (name : List ℕ) (a b : Option Entries) → Changes IsSame a b → Changes (KeepsOrMoves name) a b
moves_same name a b = so a b (λ old new same. inl same)

pub moves_one : (name aside : List ℕ) (a b : Option Entries) → IsAside name aside → IsFree aside a
    → Changes (RenamesOrKeeps name aside) a b → Changes (KeepsOrMoves name) a b
moves_one name aside a b is free = given a b (λ old new none it. elim it [
  | inl renamed ↦ inr (aside, is, none, renamed)
  | inr same ↦ inl same
]) free

-- its names are stored behind that
pub renamed_stored : (from to : List ℕ) (a b c : Option Entries) → Changes (IsRenamed from to) a b → Changes IsSame b c
    → Changes (RenamesOrKeeps from to) a c
renamed_stored from to a b c = then a b c (λ old mid new it same. inl (record {
  moved = same to ∙ it.moved;
  left = λ apart. same from ∙ it.left apart;
  others = λ n p q. same n ∙ it.others n p q;
}))

-- ---- the note of a closing

-- no file that gets another name is the note, and none gets the name of it
pub moves_no_note : (name : List ℕ) (a b : Option Entries) → MayKnowMore name → Changes (KeepsOrMoves name) a b
    → KeepsNote a b
moves_no_note name a b may = so a b (λ old new moves. elim moves [
  | inl same ↦ same (codes "closed")
  | inr moved ↦ moved.3.others (codes "closed")
      (λ same. (plain_name name may).closed [] (append-nil name ∙ sym same))
      (λ same. (aside_left_alone name moved.0 may moved.1).closed (sym same))
])

pub note_stays : (a b c : Option Entries) → KeepsNote a b → KeepsNote b c → KeepsNote a c
note_stays a b c = then a b c (λ old mid new p q. q ∙ p)

pub note_here : (a : Option Entries) → KeepsNote a a
note_here None = tt
note_here (Some old) = refl

pub note_finished : (a b : Option Entries) → Changes KeepsFinished a b → KeepsNote a b
note_finished a b = so a b (λ old new kept. kept (codes "closed") (is_finished (codes "closed") refl))

pub note_beside_volume : (a b : Option Entries) → Changes (KeepsOthers (codes "volume")) a b → KeepsNote a b
note_beside_volume a b = so a b (λ old new kept. kept (codes "closed") (λ same.
    let heads : 99 ≡ 118 = ap (λ (n : List ℕ). get_or n 0 0) same in absurd (omega (arith, heads))))

pub note_beside_log : (a b : Option Entries) → Changes (KeepsOthers (codes "log")) a b → KeepsNote a b
note_beside_log a b = so a b (λ old new kept. kept (codes "closed") (λ same.
    let heads : 99 ≡ 108 = ap (λ (n : List ℕ). get_or n 0 0) same in absurd (omega (arith, heads))))

pub still_without : (a b : Option Entries) → KeepsNote a b → IsWithoutNote a → IsWithoutNote b
still_without None None kept none = tt
still_without None (Some new) kept none = absurd kept
still_without (Some old) None kept none = tt
still_without (Some old) (Some new) kept none = kept ∙ none

pub no_note : (a : Option Entries) → IfSome a HasNoOrphan → IsWithoutNote a
no_note None none = tt
no_note (Some there) none = none.closed

pub tells_still : (a b : Option Entries) (has : Bool) → KeepsNote a b → Tells a (codes "closed") has
    → Tells b (codes "closed") has
tells_still None None has kept told = tt
tells_still None (Some new) has kept told = absurd kept
tells_still (Some old) None has kept told = tt
tells_still (Some old) (Some new) true kept told = λ none. told (sym kept ∙ none)
tells_still (Some old) (Some new) false kept told = kept ∙ told
