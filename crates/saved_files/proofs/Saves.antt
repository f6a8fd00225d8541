-- Files that are saved one after another.
use Rattle.std.proofs.Common.{◌≡◌, ◌∙◌, ℕ, ◌+◌, ◌<◌, ◌^◌, inl, inr, List, [], ◌∷◌, refl, sym, ap, subst, arith}
use Rattle.std.specs.Prelude.{◌≢◌, ◌⊎◌, codes, decimal, Option, Some, None}
use Rattle.std.proofs.lemmas.Bool.{cases_lt}
use Rattle.std.proofs.lemmas.List.{append_cancel_left}
use Rattle.std.proofs.lemmas.Fmt.{decimal_injective}
use Rattle.saved_files.specs.declared.file_fault.FileFault.{FileFault}
use Rattle.saved_files.specs.declared.put_fault.PutFault.{PutFault}
use Rattle.saved_files.specs.declared.put_fault.PutFault.TheVariants.{Unmade, Unwritten, Unplaced}
use Rattle.saved_files.specs.declared.save_fault.SaveFault.{SaveFault}
use Rattle.saved_files.specs.declared.save_fault.SaveFault.TheVariants.{Unclaimed, Unsaved, Unstored}
use Rattle.saved_files.specs.declared.saved_name.SavedName.{SavedName}
use Rattle.saved_files.specs.declared.saved_name.SavedName.TheVariants.{Log, Master, Copy}
use Rattle.std.specs.Io.KnownBytes.{Appends}
use Rattle.saved_files.specs.FileFault.{Leaves}
use Rattle.saved_files.specs.Folder.{Changes, Entries, FolderEntry, IsSame, KeepsBeside, Puts, absent, stored, unsynced}
use Rattle.saved_files.specs.PutFault.{LeavesPut, Writing, bytes_by}
use Rattle.saved_files.specs.Saved.{AreSaved, AreSavedBefore, IsOfFile, IsOfPart, LeavesFile, LeavesFrom, LeavesSaved}
use Rattle.saved_files.specs.Saved.{Parts, WentOut, name_of, place_of}
use Rattle.saved_files.proofs.Puts.{so, then}

-- ---- the names

-- the first byte
abbrev first : List ℕ → ℕ
first [] = 0
first (x ∷ xs) = x

-- files at two places have two names
pub names_differ : (a b : SavedName) → place_of a < place_of b → place_of b < 2 ^ 64 → name_of a ≢ name_of b
names_differ Log Log lt few = omega (arith, lt)
names_differ Log Master lt few = λ same. cc
names_differ Log (Copy j) lt few = λ same. let heads : 108 ≡ 99 = ap first same in omega (arith, heads)
names_differ Master Log lt few = omega (arith, lt)
names_differ Master Master lt few = omega (arith, lt)
names_differ Master (Copy j) lt few = λ same. let heads : 109 ≡ 99 = ap first same in omega (arith, heads)
names_differ (Copy i) Log lt few = omega (arith, lt)
names_differ (Copy i) Master lt few = omega (arith, lt)
names_differ (Copy i) (Copy j) lt few = λ same.
    let equal = decimal_injective i j (omega arith) (omega arith)
    (append_cancel_left (codes "copy-") (decimal i) (decimal j) same) in omega (arith, equal)

-- two files have two places
same_place : (a b : SavedName) → place_of a ≡ place_of b → a ≡ b
same_place Log Log same = refl
same_place Log Master same = cc
same_place Log (Copy j) same = absurd (omega (arith, same))
same_place Master Log same = cc
same_place Master Master same = refl
same_place Master (Copy j) same = absurd (omega (arith, same))
same_place (Copy i) Log same = absurd (omega (arith, same))
same_place (Copy i) Master same = absurd (omega (arith, same))
same_place (Copy i) (Copy j) same = let is : i ≡ j = omega (arith, same) in ap Copy is

-- ---- one file more

same_bytes : (a b : List ℕ) → Some a ≡ Some b → a ≡ b
same_bytes a b same = cc

-- what a source of these bytes gives, and what it leaves
abbrev pub gives_of : List ℕ → Writing
gives_of bytes = λ a b. Appends a b bytes

abbrev pub leaves_of : List ℕ → FileFault → Writing
leaves_of bytes = λ fault a b. Leaves bytes a b fault

abbrev pub Whole : List ℕ → List ℕ → Type 0
Whole bytes = bytes_by (gives_of bytes)

-- what stood before the first file
pub none_before : (parts : Parts) (old : Entries) → AreSavedBefore parts 0 old old
none_before parts old = record {
  saved = λ name bytes asked lt. absurd (omega (arith, lt));
  others = λ n none. refl;
}

-- a file is saved behind those before it
pub saved_more : (parts : Parts) (at : SavedName) (bytes : List ℕ) (old mid new : Entries) → place_of at < 2 ^ 64
    → parts at ≡ Some bytes → AreSavedBefore parts (place_of at) old mid → Puts (name_of at) (Whole bytes) mid new
    → AreSavedBefore parts (place_of at + 1) old new
saved_more parts at bytes old mid new few asked before put = record {
  saved = λ name bs is lt. elim (cases_lt (place_of name) (place_of at)) [
    | inl less ↦ put.others (name_of name) (names_differ name at less few)
        ∙ before.saved name bs is less
    | inr le ↦
        let same : name ≡ at = same_place name at (omega (arith, lt, le)) in
        let equal : bytes ≡ bs = same_bytes bytes bs (sym asked ∙ ap parts (sym same) ∙ is) in
        ap (λ (a : SavedName). new (name_of a)) same ∙ put.put ∙ ap stored (put.right ∙ equal)
  ];
  others = λ n none.
      put.others n (none at bytes asked (omega arith))
      ∙ before.others n (λ name bs is lt. none name bs is (omega (arith, lt)));
}

-- there is no such file
pub none_more : (parts : Parts) (at : SavedName) (old new : Entries) → parts at ≡ None
    → AreSavedBefore parts (place_of at) old new → AreSavedBefore parts (place_of at + 1) old new
none_more parts at old new none before = record {
  saved = λ name bs is lt. elim (cases_lt (place_of name) (place_of at)) [
    | inl less ↦ before.saved name bs is less
    | inr le ↦
        let same : name ≡ at = same_place name at (omega (arith, lt, le)) in
        let gone : None ≡ Some bs = sym none ∙ ap parts (sym same) ∙ is in
        cc
  ];
  others = λ n no. before.others n (λ name bs is lt. no name bs is (omega (arith, lt)));
}

-- ---- a file that is not saved

-- what stands under the name, and what had gone out
record IsLeft (at : SavedName) (bytes : List ℕ) (why : PutFault FileFault) (before given_up : Option (List ℕ))
    (mid new : Entries) : Type 0 where
  either : (new (name_of at) ≡ stored bytes) ⊎ (new (name_of at) ≡ mid (name_of at))
  others : KeepsBeside (name_of at) mid new
  went_out : WentOut bytes before given_up why

is_left : (at : SavedName) (bytes : List ℕ) (why : PutFault FileFault) (before given_up : Option (List ℕ))
    (mid new : Entries) → LeavesPut (name_of at) (gives_of bytes) (leaves_of bytes) before given_up why mid new
    → IsLeft at bytes why before given_up mid new
is_left at bytes (Unmade why) before given_up mid new it = record {
  either = inr (it.0 (name_of at));
  others = λ n apart. inl (it.0 n);
  went_out = it.1;
}
is_left at bytes (Unwritten why) before given_up mid new it = record {
  either = inr it.0;
  others = it.1;
  went_out = it.2;
}
is_left at bytes (Unplaced why) before given_up mid new it = record {
  either = elim it.0.either [ inl put ↦ inl (put.2 ∙ ap stored put.1) | inr same ↦ inr same ];
  others = it.0.others;
  went_out = all_out given_up it.1;
}
  where
    all_out : (given : Option (List ℕ)) → Appends (Some []) given bytes → given ≡ Some bytes
    all_out None none = absurd none
    all_out (Some out) is = ap Some is

-- behind those before it
pub leaves_from : (parts : Parts) (at : SavedName) (bytes : List ℕ) (why : PutFault FileFault)
    (before given_up : Option (List ℕ)) (old mid new : Entries) → place_of at < 2 ^ 64
    → parts at ≡ Some bytes → AreSavedBefore parts (place_of at) old mid
    → LeavesPut (name_of at) (gives_of bytes) (leaves_of bytes) before given_up why mid new
    → LeavesFrom parts at why before given_up old new
leaves_from parts at bytes why before_given given_up old mid new few asked before put =
    let it = is_left at bytes why before_given given_up mid new put in
    record {
      bytes = bytes;
      asked = asked;
      before = λ name bs is lt. elim (it.others (name_of name) (names_differ name at lt few)) [
        | inl same ↦ same ∙ before.saved name bs is lt
        | inr none ↦
            let gone : absent ≡ stored bs = sym none.0 ∙ before.saved name bs is lt in
            absurd (not_there bs gone)
      ];
      either = elim it.either [
        | inl is ↦ inl is
        | inr is ↦ inr (is ∙ before.others (name_of at)
            (λ name bs asked lt same. names_differ name at lt few (sym same)))
      ];
      others = λ n apart none. elim (it.others n apart) [
        | inl same ↦ inl (same ∙ before.others n none)
        | inr gone ↦ inr (sym (before.others n none) ∙ gone.0, gone.1)
      ];
      went_out = it.went_out;
    }
  where
    is_there : FolderEntry → Type 0
    is_there absent = ⊥
    is_there unsynced = Unit {0}
    is_there (stored bytes) = Unit {0}

    not_there : (bs : List ℕ) → absent ≡ stored bs → ⊥
    not_there bs same = subst is_there (sym same) tt

-- all files are saved
pub saved_all : (parts : Parts) (end : ℕ) (old new : Entries) → AreSavedBefore parts end old new
    → ((name : SavedName) (bytes : List ℕ) → parts name ≡ Some bytes → place_of name < end)
    → AreSaved parts old new
saved_all parts end old new before within = record {
  saved = λ name bytes is. before.saved name bytes is (within name bytes is);
  others = λ n none. before.others n (λ name bytes is lt. none name bytes is);
}

-- ---- what is known of a folder

pub first_saved : (parts : Parts) (bytes : List ℕ) (a b : Option Entries) → parts Log ≡ Some bytes
    → Changes (Puts (name_of Log) (Whole bytes)) a b → Changes (AreSavedBefore parts 1) a b
first_saved parts bytes a b asked = so a b (λ old new put.
    saved_more parts Log bytes old old new (omega arith) asked (none_before parts old) put)

pub next_saved : (parts : Parts) (at : SavedName) (bytes : List ℕ) (a b c : Option Entries) (end : ℕ)
    → place_of at < 2 ^ 64 → end ≡ place_of at + 1 → parts at ≡ Some bytes
    → Changes (AreSavedBefore parts (place_of at)) a b → Changes (Puts (name_of at) (Whole bytes)) b c
    → Changes (AreSavedBefore parts end) a c
next_saved parts at bytes a b c end few is asked = rw is (then a b c (λ old mid new far put.
    saved_more parts at bytes old mid new few asked far put))

pub next_none : (parts : Parts) (at : SavedName) (a b : Option Entries) (end : ℕ) → end ≡ place_of at + 1
    → parts at ≡ None → Changes (AreSavedBefore parts (place_of at)) a b → Changes (AreSavedBefore parts end) a b
next_none parts at a b end is none = rw is (so a b (λ old new far. none_more parts at old new none far))

-- a file is not saved
file_left : (parts : Parts) (at : SavedName) (bytes : List ℕ) (fault : SaveFault) (before given_up : Option (List ℕ))
    (old mid new : Entries) → place_of at < 2 ^ 64 → parts at ≡ Some bytes → AreSavedBefore parts (place_of at) old mid
    → LeavesFile at (gives_of bytes) (leaves_of bytes) fault before given_up mid new
    → LeavesSaved parts fault before given_up old new
file_left parts at bytes (Unclaimed why) before given_up old mid new few asked far left = absurd left
file_left parts at bytes (Unstored why) before given_up old mid new few asked far left = absurd left
file_left parts at bytes (Unsaved name why) before given_up old mid new few asked far left =
    subst (λ n. LeavesFrom parts n why before given_up old new) (sym left.0)
    (leaves_from parts at bytes why before given_up old mid new few asked far left.1)

-- the first one, or a later one, is not saved
pub first_left : (parts : Parts) (bytes : List ℕ) (fault : SaveFault) (before given_up : Option (List ℕ))
    (a b : Option Entries) → parts Log ≡ Some bytes
    → Changes (LeavesFile Log (gives_of bytes) (leaves_of bytes) fault before given_up) a b
    → Changes (LeavesSaved parts fault before given_up) a b
first_left parts bytes fault before given_up a b asked = so a b (λ old new left.
    file_left parts Log bytes fault before given_up old old new (omega arith) asked (none_before parts old) left)

pub next_left : (parts : Parts) (at : SavedName) (bytes : List ℕ) (fault : SaveFault)
    (first before given_up : Option (List ℕ)) (a b c : Option Entries) → place_of at < 2 ^ 64
    → parts at ≡ Some bytes → before ≡ first → Changes (AreSavedBefore parts (place_of at)) a b
    → Changes (LeavesFile at (gives_of bytes) (leaves_of bytes) fault before given_up) b c
    → Changes (LeavesSaved parts fault first given_up) a c
next_left parts at bytes fault first before given_up a b c few asked same = λ far left.
    subst (λ start. Changes (LeavesSaved parts fault start given_up) a c) same
    (then a b c (λ old mid new far left.
    file_left parts at bytes fault before given_up old mid new few asked far left) far left)

pub last_saved : (parts : Parts) (end : ℕ) (a b : Option Entries)
    → ((name : SavedName) (bytes : List ℕ) → parts name ≡ Some bytes → place_of name < end)
    → Changes (AreSavedBefore parts end) a b → Changes (AreSaved parts) a b
last_saved parts end a b within = so a b (λ old new far. saved_all parts end old new far within)

-- ---- what a fault is of

pub of_part : (parts : Parts) (at : SavedName) (bytes : List ℕ) (fault : SaveFault) → parts at ≡ Some bytes
    → IsOfFile at (leaves_of bytes) fault → IsOfPart parts fault
of_part parts at bytes (Unclaimed why) asked it = absurd it
of_part parts at bytes (Unstored why) asked it = absurd it
of_part parts at bytes (Unsaved name why) asked it = (bytes, ap parts it.0 ∙ asked, it.1)

-- ---- from the claim to the end

-- what is saved after the folder was taken
pub claimed_saved : (parts : Parts) (a b c : Option Entries) → Changes IsSame a b → Changes (AreSaved parts) b c
    → Changes (AreSaved parts) a c
claimed_saved parts a b c = then a b c (λ old mid new same all. record {
  saved = all.saved;
  others = λ n none. all.others n none ∙ same n;
})

left_before : (parts : Parts) (fault : SaveFault) (before given_up : Option (List ℕ)) (old mid new : Entries)
    → IsSame old mid → LeavesSaved parts fault before given_up mid new
    → LeavesSaved parts fault before given_up old new
left_before parts (Unclaimed why) before given_up old mid new same left = λ n. left n ∙ same n
left_before parts (Unsaved name why) before given_up old mid new same left = record {
  bytes = left.bytes;
  asked = left.asked;
  before = left.before;
  either = elim left.either [ inl is ↦ inl is | inr is ↦ inr (is ∙ same (name_of name)) ];
  others = λ n apart none. elim (left.others n apart none) [
    | inl is ↦ inl (is ∙ same n)
    | inr gone ↦ inr (sym (same n) ∙ gone.0, gone.1)
  ];
  went_out = left.went_out;
}
left_before parts (Unstored why) before given_up old mid new same left = record {
  saved = left.saved;
  others = λ n none. left.others n none ∙ same n;
}

-- and what is left
pub claimed_left : (parts : Parts) (fault : SaveFault) (first before given_up : Option (List ℕ))
    (a b c : Option Entries) → before ≡ first → Changes IsSame a b
    → Changes (LeavesSaved parts fault before given_up) b c → Changes (LeavesSaved parts fault first given_up) a c
claimed_left parts fault first before given_up a b c equal same left =
    subst (λ start. Changes (LeavesSaved parts fault start given_up) a c) equal
    (then a b c (λ old mid new same left. left_before parts fault before given_up old mid new same left) same left)

-- the names are synced, or that fails, and stay
pub then_same : (parts : Parts) (a b c : Option Entries) → Changes (AreSaved parts) a b → Changes IsSame b c
    → Changes (AreSaved parts) a c
then_same parts a b c = then a b c (λ old mid new all same. record {
  saved = λ name bytes is. same (name_of name) ∙ all.saved name bytes is;
  others = λ n none. same n ∙ all.others n none;
})
