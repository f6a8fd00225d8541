-- Two files that are put in their places, the first one first.
use Rattle.std.specs.Prelude.{ℕ, ◌≡◌, List, [], Option, Some, None, Result, Ok, Err, ⊤}
use Rattle.saved_files.specs.declared.put_both_fault.PutBothFault.{PutBothFault}
use Rattle.saved_files.specs.declared.put_both_fault.PutBothFault.TheVariants.{Unmade, Unwritten}
use Rattle.saved_files.specs.declared.put_both_fault.PutBothFault.TheVariants.{Unsynced, Unplaced}
use Rattle.saved_files.specs.declared.put_both_fault.PutBothFault.TheVariants.{Unstored}
use Rattle.saved_files.specs.declared.put_both_fault.Which.{Which}
use Rattle.saved_files.specs.declared.put_both_fault.Which.TheVariants.{First, Second}
use Rattle.saved_files.specs.declared.file_fault.FileFault.{FileFault}
use Rattle.saved_files.specs.declared.put_both.PlaceFault.{PlaceFault}
use Rattle.saved_files.specs.declared.put_both.PlaceFault.TheVariants as place
use Rattle.saved_files.specs.FileFault.{IsOfNoByte}
use Rattle.saved_files.specs.Folder.{Entries, IsRenamed, KeepsName, KeepsOthers, Puts, PutsOrKeeps}
use Rattle.saved_files.specs.Placed.{IsPlaced, IsRenamedOrGone, IsUnplaced}

-- what a source of two files makes of what the writers of the first and of the second have
abbrev pub BothWriting : Type 1
BothWriting = Option (List ℕ) → Option (List ℕ) → Option (List ℕ) → Option (List ℕ) → Type 0

-- the entries of two folders, where those of both are known, change like this
abbrev pub BothChange : (Entries → Entries → Entries → Entries → Type 0) → Option Entries
    → Option Entries → Option Entries → Option Entries → Type 0
BothChange like None b c d = ⊤
BothChange like (Some a) b None d = ⊤
BothChange like (Some a) None (Some c) d = ⊥
BothChange like (Some a) (Some b) (Some c) None = ⊥
BothChange like (Some a) (Some b) (Some c) (Some d) = like a b c d

-- what becomes of a name and its folder, where so much went out to its file
abbrev pub Fate : Type 1
Fate = List ℕ → Option (List ℕ) → Entries → Entries → Type 0

abbrev pub has_its_file : Fate
has_its_file name contents = Puts name (λ bytes. contents ≡ Some bytes)

abbrev pub may_have_its_file : Fate
may_have_its_file name contents = PutsOrKeeps name (λ bytes. contents ≡ Some bytes)

abbrev pub has_what_it_had : Fate
has_what_it_had name contents = KeepsName name

-- both files are of one writing, and this becomes of their names
pub record IsFateOf (gives : BothWriting) (one two : List ℕ) (of_first of_second : Fate)
    (a b c d : Entries) : Type 0 where
  pub first : Option (List ℕ)
  pub second : Option (List ℕ)
  pub given : gives (Some []) first (Some []) second
  pub of_one : of_first one first a b
  pub of_two : of_second two second c d

-- both stand under their names, whole
abbrev pub PutsBoth : BothWriting → List ℕ → List ℕ
    → Entries → Entries → Entries → Entries → Type 0
PutsBoth gives one two = IsFateOf gives one two has_its_file has_its_file

-- neither does: each name has what it had
abbrev pub KeepsBoth : List ℕ → List ℕ → Entries → Entries → Entries → Entries → Type 0
KeepsBoth one two a b c d = KeepsName one a b × KeepsName two c d

-- what stands where one of two files was not put in its place, and what had gone out to them where
-- their source failed. The second name has what it had unless the first one has its new file
abbrev pub LeavesBoth : {E : Type 0} → BothWriting → (E → BothWriting) → List ℕ → List ℕ
    → Option (List ℕ) → Option (List ℕ) → PutBothFault E
    → Entries → Entries → Entries → Entries → Type 0
LeavesBoth gives leaves one two given_one given_two (Unmade which why) a b c d =
    KeepsBoth one two a b c d
LeavesBoth gives leaves one two given_one given_two (Unwritten why) a b c d =
    KeepsBoth one two a b c d × leaves why (Some []) given_one (Some []) given_two
LeavesBoth gives leaves one two given_one given_two (Unsynced which why) a b c d =
    KeepsBoth one two a b c d
LeavesBoth gives leaves one two given_one given_two (Unplaced First why) a b c d =
    IsFateOf gives one two may_have_its_file has_what_it_had a b c d
LeavesBoth gives leaves one two given_one given_two (Unstored First why) a b c d =
    IsFateOf gives one two has_its_file has_what_it_had a b c d
LeavesBoth gives leaves one two given_one given_two (Unplaced Second why) a b c d =
    IsFateOf gives one two has_its_file may_have_its_file a b c d
LeavesBoth gives leaves one two given_one given_two (Unstored Second why) a b c d =
    PutsBoth gives one two a b c d

-- the second file may be in its place, so the first one's name lasts
abbrev pub IfOfSecond : {E : Type 0} → Type 0 → PutBothFault E → Type 0
IfOfSecond lasts (Unplaced Second why) = lasts
IfOfSecond lasts (Unstored Second why) = lasts
IfOfSecond lasts other = Unit {0}

-- the fault is of the writing, and of nothing that it did; or no byte is told to have gone out
abbrev pub IsOfBoth : {E : Type 0} → (E → BothWriting) → PutBothFault E → Type 0
IsOfBoth leaves (Unmade which why) = IsOfNoByte why
IsOfBoth leaves (Unwritten why) = (a : Option (List ℕ)) × ((b : Option (List ℕ))
    × ((c : Option (List ℕ)) × ((d : Option (List ℕ)) × leaves why a b c d)))
IsOfBoth leaves (Unsynced which why) = IsOfNoByte why
IsOfBoth leaves (Unplaced which why) = IsOfNoByte why
IsOfBoth leaves (Unstored which why) = IsOfNoByte why

-- why one was not put in its place: they were not written to their ends; or they were, and no byte
-- is told to have gone out
abbrev pub IsWhyOfBoth : {E : Type 0} → Result (Unit {0}) E → PutBothFault E → Type 0
IsWhyOfBoth done (Unmade which why) = ⊥
IsWhyOfBoth done (Unwritten why) = done ≡ Err why
IsWhyOfBoth done (Unsynced which why) = (done ≡ Ok tt) × IsOfNoByte why
IsWhyOfBoth done (Unplaced which why) = (done ≡ Ok tt) × IsOfNoByte why
IsWhyOfBoth done (Unstored which why) = (done ≡ Ok tt) × IsOfNoByte why

-- they were written to their ends
abbrev pub IsOfPlacing : {E : Type 0} → PutBothFault E → Type 0
IsOfPlacing (Unmade which why) = ⊥
IsOfPlacing (Unwritten why) = ⊥
IsOfPlacing (Unsynced which why) = IsOfNoByte why
IsOfPlacing (Unplaced which why) = IsOfNoByte why
IsOfPlacing (Unstored which why) = IsOfNoByte why

-- they were not
abbrev pub IfUnwritten : {E : Type 0} → Type 0 → PutBothFault E → Type 0
IfUnwritten fact (Unwritten why) = fact
IfUnwritten fact other = Unit {0}

-- ---- one file of two

-- what becomes of the first name, where its file was written beside it
abbrev pub FirstAfter : {E : Type 0} → List ℕ → List ℕ → Option (List ℕ) → PutBothFault E
    → Entries → Entries → Type 0
FirstAfter beside name contents (Unwritten why) = KeepsOthers beside
FirstAfter beside name contents (Unsynced which why) = KeepsOthers beside
FirstAfter beside name contents (Unplaced First why) = IsUnplaced beside name contents
FirstAfter beside name contents (Unplaced Second why) = IsPlaced beside name contents
FirstAfter beside name contents (Unstored which why) = IsPlaced beside name contents
FirstAfter beside name contents (Unmade which why) = λ a b. ⊥

-- and of the second one
abbrev pub SecondAfter : {E : Type 0} → List ℕ → List ℕ → Option (List ℕ) → PutBothFault E
    → Entries → Entries → Type 0
SecondAfter beside name contents (Unwritten why) = KeepsOthers beside
SecondAfter beside name contents (Unsynced which why) = KeepsOthers beside
SecondAfter beside name contents (Unplaced First why) = KeepsOthers beside
SecondAfter beside name contents (Unplaced Second why) = IsUnplaced beside name contents
SecondAfter beside name contents (Unstored First why) = KeepsOthers beside
SecondAfter beside name contents (Unstored Second why) = IsPlaced beside name contents
SecondAfter beside name contents (Unmade which why) = λ a b. ⊥

-- it was not renamed, or it is not known that the names last
abbrev pub LeavesPlace : List ℕ → List ℕ → PlaceFault → Entries → Entries → Type 0
LeavesPlace beside name (place.Unplaced why) = IsRenamedOrGone beside name
LeavesPlace beside name (place.Unstored why) = IsRenamed beside name

abbrev pub why_of : PlaceFault → FileFault
why_of (place.Unplaced why) = why
why_of (place.Unstored why) = why

-- the fault of one of two
abbrev pub fault_of : {E : Type 0} → Which → PlaceFault → PutBothFault E
fault_of which (place.Unplaced why) = Unplaced which why
fault_of which (place.Unstored why) = Unstored which why
