-- Two files that are put in their places.
use Rattle.std.proofs.Common.{◌≡◌, ◌∙◌, ℕ, inl, List, [], refl, sym, subst}
use Rattle.std.specs.Prelude.{Option, Some, None, Result, Ok, Err, IfErr, OnOk}
use Rattle.saved_files.specs.declared.file_fault.FileFault.{FileFault}
use Rattle.saved_files.specs.declared.put_both.PlaceFault.{PlaceFault}
use Rattle.saved_files.specs.declared.put_both.PlaceFault.TheVariants as place
use Rattle.saved_files.specs.declared.put_both_fault.PutBothFault.{PutBothFault}
use Rattle.saved_files.specs.declared.put_both_fault.PutBothFault.TheVariants.{Unmade, Unwritten, Unsynced, Unplaced, Unstored}
use Rattle.saved_files.specs.declared.put_both_fault.Which.TheVariants.{First, Second}
use Rattle.saved_files.specs.Folder.{Changes, Entries, IsBeside, IsMade, IsRenamed, IsSame, IsSynced, KeepsName}
use Rattle.saved_files.specs.Folder.{KeepsOthers, RenamesOrKeeps}
use Rattle.saved_files.specs.Placed.{IsPlaced, IsRenamedOrGone, IsUnplaced}
use Rattle.saved_files.specs.PutBoth.{BothChange, BothWriting, FirstAfter, IfUnwritten, IsOfBoth, IsOfPlacing, IsWhyOfBoth}
use Rattle.saved_files.specs.PutBoth.{LeavesBoth, LeavesPlace, PutsBoth, SecondAfter, fault_of}
use Rattle.saved_files.proofs.Puts.{kept_name, placed, placed_put, so, stayed, then, then_gone, unplaced_put, wrote, wrote_not}

-- ---- one of both

-- nothing happens to a folder
pub kept_here : (name : List ℕ) (a : Option Entries) → Changes (KeepsOthers name) a a
kept_here name None = tt
kept_here name (Some old) = λ n apart. refl

pub synced_kept : (name : List ℕ) (contents : Option (List ℕ)) (a b : Option Entries)
    → Changes (IsSynced name contents) a b → Changes (KeepsOthers name) a b
synced_kept name contents a b = so a b (λ old new it. it.others)

pub kept_twice : (name : List ℕ) (a b c : Option Entries) → Changes (KeepsOthers name) a b
    → Changes (KeepsOthers name) b c → Changes (KeepsOthers name) a c
kept_twice name a b c = then a b c (λ old mid new one two. λ n apart. two n apart ∙ one n apart)

-- renamed, and the names synced
renamed_same : (beside name : List ℕ) (a b c : Option Entries) → Changes (IsRenamed beside name) a b
    → Changes IsSame b c → Changes (IsRenamed beside name) a c
renamed_same beside name a b c = then a b c (λ old mid new it same. record {
  moved = same name ∙ it.moved;
  left = λ apart. same beside ∙ it.left apart;
  others = λ n other away. same n ∙ it.others n other away;
})

-- renamed, and the names synced, with the name beside as the code passes it
pub renamed_same_by : (text beside name : List ℕ) (a b c : Option Entries) → text ≡ beside
    → Changes (IsRenamed text name) a b → Changes IsSame b c → Changes (IsRenamed beside name) a c
renamed_same_by text beside name a b c equal renamed same =
    subst (λ n. Changes (IsRenamed n name) a c) equal (renamed_same text name a b c renamed same)

-- perhaps renamed, and given up
pub renamed_or_gone : (beside name : List ℕ) (a b c : Option Entries) → Changes (RenamesOrKeeps beside name) a b
    → Changes (KeepsOthers beside) b c → Changes (IsRenamedOrGone beside name) a c
renamed_or_gone beside name a b c = then a b c (λ old mid new either gone. record {
  mid = mid;
  either = either;
  gone = gone;
})

-- synced before
unplaced_from : (beside name : List ℕ) (contents : Option (List ℕ)) (a b c : Option Entries)
    → Changes (IsSynced beside contents) a b → Changes (IsRenamedOrGone beside name) b c
    → Changes (IsUnplaced beside name contents) a c
unplaced_from beside name contents a b c = then a b c
    (λ (old mid new : Entries) (synced : IsSynced beside contents old mid) (it : IsRenamedOrGone beside name mid new).
    then_gone beside name contents old it.mid new
    (stayed beside name contents (Some old) (Some mid) (Some it.mid) synced it.either) it.gone)

-- ---- after the fault of one

pub first_left : (E : Type 0) (beside name : List ℕ) (contents : Option (List ℕ)) (fault : PlaceFault)
    (a b c : Option Entries) → Changes (IsSynced beside contents) a b → Changes (LeavesPlace beside name fault) b c
    → Changes (FirstAfter {E = E} beside name contents (fault_of First fault)) a c
first_left E beside name contents (place.Unplaced why) a b c = unplaced_from beside name contents a b c
first_left E beside name contents (place.Unstored why) a b c = placed beside name contents a b c

pub second_kept : (E : Type 0) (beside name : List ℕ) (contents : Option (List ℕ)) (fault : PlaceFault)
    (a b c : Option Entries) → Changes (IsSynced beside contents) a b → Changes (KeepsOthers beside) b c
    → Changes (SecondAfter {E = E} beside name contents (fault_of First fault)) a c
second_kept E beside name contents (place.Unplaced why) a b c synced =
    kept_twice beside a b c (synced_kept beside contents a b synced)
second_kept E beside name contents (place.Unstored why) a b c synced =
    kept_twice beside a b c (synced_kept beside contents a b synced)

pub first_placed : (E : Type 0) (beside name : List ℕ) (contents : Option (List ℕ)) (fault : PlaceFault)
    (a b c : Option Entries) → Changes (IsSynced beside contents) a b → Changes (IsRenamed beside name) b c
    → Changes (FirstAfter {E = E} beside name contents (fault_of Second fault)) a c
first_placed E beside name contents (place.Unplaced why) a b c = placed beside name contents a b c
first_placed E beside name contents (place.Unstored why) a b c = placed beside name contents a b c

pub second_left : (E : Type 0) (beside name : List ℕ) (contents : Option (List ℕ)) (fault : PlaceFault)
    (a b c : Option Entries) → Changes (IsSynced beside contents) a b → Changes (LeavesPlace beside name fault) b c
    → Changes (SecondAfter {E = E} beside name contents (fault_of Second fault)) a c
second_left E beside name contents (place.Unplaced why) a b c = unplaced_from beside name contents a b c
second_left E beside name contents (place.Unstored why) a b c = placed beside name contents a b c

-- ---- both

-- what is known of both folders
both : {P Q : Entries → Entries → Type 0} {R : Entries → Entries → Entries → Entries → Type 0} (a b c d : Option Entries)
    → ((w x y z : Entries) → P w x → Q y z → R w x y z) → Changes P a b → Changes Q c d → BothChange R a b c d
both None b c d imply p q = tt
both (Some a) b None d imply p q = tt
both (Some a) None (Some c) d imply p q = absurd p
both (Some a) (Some b) (Some c) None imply p q = absurd q
both (Some a) (Some b) (Some c) (Some d) imply p q = imply a b c d p q

-- made, and then this
record Since (beside : List ℕ) (empty : Option (List ℕ)) (after : Entries → Entries → Type 0) (old new : Entries)
    : Type 0 where
  mid : Entries
  made : IsMade beside empty old mid
  rest : after mid new

since : (beside : List ℕ) (empty : Option (List ℕ)) (after : Entries → Entries → Type 0) (a b c : Option Entries)
    → Changes (IsMade beside empty) a b → Changes after b c → Changes (Since beside empty after) a c
since beside empty after a b c = then a b c (λ old mid new made rest. record { mid = mid; made = made; rest = rest })

-- the writing of both, from no bytes
of_both : (gives : BothWriting) (empty_one last_one held_one empty_two last_two held_two : Option (List ℕ))
    → held_one ≡ last_one → held_two ≡ last_two → gives empty_one last_one empty_two last_two
    → empty_one ≡ Some [] → empty_two ≡ Some [] → gives (Some []) held_one (Some []) held_two
of_both gives empty_one last_one held_one empty_two last_two held_two same_one same_two it none_one none_two =
    subst (λ h. gives (Some []) h (Some []) held_two) (sym same_one)
    (subst (λ h. gives (Some []) last_one (Some []) h) (sym same_two)
    (subst (λ e. gives e last_one (Some []) last_two) none_one
    (subst (λ e. gives empty_one last_one e last_two) none_two it)))

-- both are placed
puts_both : (gives : BothWriting) (one two text_one text_two : List ℕ)
    (empty_one last_one held_one empty_two last_two held_two : Option (List ℕ)) (a b c d e f : Option Entries)
    → IsBeside one text_one → IsBeside two text_two → held_one ≡ last_one → held_two ≡ last_two
    → gives empty_one last_one empty_two last_two → Changes (IsMade text_one empty_one) a b
    → Changes (IsMade text_two empty_two) d e → Changes (IsPlaced text_one one held_one) b c
    → Changes (IsPlaced text_two two held_two) e f → BothChange (PutsBoth gives one two) a c d f
puts_both gives one two text_one text_two empty_one last_one held_one empty_two last_two held_two a b c d e f is_one is_two
    same_one same_two how made_one made_two first second =
    both a c d f
    (λ (w x y z : Entries) (p : Since text_one empty_one (IsPlaced text_one one held_one) w x)
    (q : Since text_two empty_two (IsPlaced text_two two held_two) y z).
    record {
      first = held_one;
      second = held_two;
      given = of_both gives empty_one last_one held_one empty_two last_two held_two same_one same_two how p.made.empty
          q.made.empty;
      of_one = placed_put one text_one empty_one held_one is_one w p.mid x p.made p.rest;
      of_two = placed_put two text_two empty_two held_two is_two y q.mid z q.made q.rest;
    })
    (since text_one empty_one (IsPlaced text_one one held_one) a b c made_one first)
    (since text_two empty_two (IsPlaced text_two two held_two) d e f made_two second)

pub puts_both_by : {E X : Type 0} (gives : BothWriting) (one two text_one text_two : List ℕ)
    (empty_one last_one held_one empty_two last_two held_two : Option (List ℕ)) (a b c d e f : Option Entries)
    (done : Result (Unit {0}) E) (r : Result X (PutBothFault E)) → IsBeside one text_one → IsBeside two text_two
    → held_one ≡ last_one → held_two ≡ last_two → OnOk done (gives empty_one last_one empty_two last_two)
    → Changes (IsMade text_one empty_one) a b → Changes (IsMade text_two empty_two) d e
    → OnOk r (Changes (IsPlaced text_one one held_one) b c) → OnOk r (Changes (IsPlaced text_two two held_two) e f)
    → OnOk r (done ≡ Ok tt) → OnOk r (BothChange (PutsBoth gives one two) a c d f)
puts_both_by gives one two text_one text_two e1 l1 h1 e2 l2 h2 a b c d e f done (Err fault) is_one is_two same_one same_two how made_one made_two first second whole =
    tt
puts_both_by gives one two text_one text_two e1 l1 h1 e2 l2 h2 a b c d e f done (Ok x) is_one is_two same_one same_two how made_one made_two first second whole =
    puts_both gives one two text_one text_two e1 l1 h1 e2 l2 h2 a b c d e f is_one is_two same_one same_two
    (wrote (gives e1 l1 e2 l2) done whole how) made_one made_two first second

-- ---- one of both is not placed

-- what is known of both, from their making on
record IsKnown {E : Type 0} (gives : BothWriting) (leaves : E → BothWriting) (one two text_one text_two : List ℕ)
    (e1 l1 h1 e2 l2 h2 g1 g2 : Option (List ℕ)) (done : Result (Unit {0}) E) (fault : PutBothFault E) : Type 0 where
  beside_one : IsBeside one text_one
  beside_two : IsBeside two text_two
  same_one : h1 ≡ l1
  same_two : h2 ≡ l2
  how : OnOk done (gives e1 l1 e2 l2)
  hows : IfErr done (λ why. leaves why e1 l1 e2 l2)
  whole : IsWhyOfBoth done fault
  up_one : IfUnwritten (g1 ≡ h1) fault
  up_two : IfUnwritten (g2 ≡ h2) fault

module _ {E : Type 0} (gives : BothWriting) (leaves : E → BothWriting) (one two text_one text_two : List ℕ)
    (e1 l1 h1 e2 l2 h2 g1 g2 : Option (List ℕ)) (done : Result (Unit {0}) E) where
  all_out : (fault : PutBothFault E) → IsKnown gives leaves one two text_one text_two e1 l1 h1 e2 l2 h2 g1 g2 done fault
      → done ≡ Ok tt → e1 ≡ Some [] → e2 ≡ Some [] → gives (Some []) h1 (Some []) h2
  all_out fault it is = of_both gives e1 l1 h1 e2 l2 h2 it.same_one it.same_two (wrote (gives e1 l1 e2 l2) done is it.how)

  after_both : (fault : PutBothFault E)
      → IsKnown gives leaves one two text_one text_two e1 l1 h1 e2 l2 h2 g1 g2 done fault → (w x y z : Entries)
      → Since text_one e1 (FirstAfter text_one one h1 fault) w x → Since text_two e2 (SecondAfter text_two two h2 fault) y z
      → LeavesBoth gives leaves one two g1 g2 fault w x y z
  after_both (Unmade which why) it w x y z p q = absurd it.whole
  after_both (Unwritten why) it w x y z p q =
      let out : leaves why (Some []) h1 (Some []) h2 = of_both (leaves why) e1 l1 h1 e2 l2 h2 it.same_one it.same_two
      (wrote_not (λ e. leaves e e1 l1 e2 l2) done why it.whole it.hows) p.made.empty q.made.empty in (
        (
          kept_name one text_one e1 it.beside_one w p.mid x p.made p.rest,
          kept_name two text_two e2 it.beside_two y q.mid z q.made q.rest,
        ),
        subst (λ g. leaves why (Some []) g (Some []) g2) (sym it.up_one)
            (subst (λ g. leaves why (Some []) h1 (Some []) g) (sym it.up_two) out),
      )
  after_both (Unsynced which why) it w x y z p q = (
    kept_name one text_one e1 it.beside_one w p.mid x p.made p.rest,
    kept_name two text_two e2 it.beside_two y q.mid z q.made q.rest,
  )
  after_both (Unplaced First why) it w x y z p q = record {
    first = h1;
    second = h2;
    given = all_out (Unplaced First why) it it.whole.0 p.made.empty q.made.empty;
    of_one = unplaced_put one text_one e1 h1 it.beside_one w p.mid x p.made p.rest;
    of_two = kept_name two text_two e2 it.beside_two y q.mid z q.made q.rest;
  }
  after_both (Unplaced Second why) it w x y z p q = record {
    first = h1;
    second = h2;
    given = all_out (Unplaced Second why) it it.whole.0 p.made.empty q.made.empty;
    of_one = placed_put one text_one e1 h1 it.beside_one w p.mid x p.made p.rest;
    of_two = unplaced_put two text_two e2 h2 it.beside_two y q.mid z q.made q.rest;
  }
  after_both (Unstored First why) it w x y z p q = record {
    first = h1;
    second = h2;
    given = all_out (Unstored First why) it it.whole.0 p.made.empty q.made.empty;
    of_one = placed_put one text_one e1 h1 it.beside_one w p.mid x p.made p.rest;
    of_two = kept_name two text_two e2 it.beside_two y q.mid z q.made q.rest;
  }
  after_both (Unstored Second why) it w x y z p q = record {
    first = h1;
    second = h2;
    given = all_out (Unstored Second why) it it.whole.0 p.made.empty q.made.empty;
    of_one = placed_put one text_one e1 h1 it.beside_one w p.mid x p.made p.rest;
    of_two = placed_put two text_two e2 h2 it.beside_two y q.mid z q.made q.rest;
  }

pub leaves_both_by : {E X : Type 0} (gives : BothWriting) (leaves : E → BothWriting) (one two text_one text_two : List ℕ)
    (e1 l1 h1 e2 l2 h2 g1 g2 : Option (List ℕ)) (a b c d e f : Option Entries) (done : Result (Unit {0}) E)
    (r : Result X (PutBothFault E)) → IsBeside one text_one → IsBeside two text_two → h1 ≡ l1 → h2 ≡ l2
    → OnOk done (gives e1 l1 e2 l2) → IfErr done (λ why. leaves why e1 l1 e2 l2) → IfErr r (IsWhyOfBoth done)
    → IfErr r (IfUnwritten (g1 ≡ h1)) → IfErr r (IfUnwritten (g2 ≡ h2)) → Changes (IsMade text_one e1) a b
    → Changes (IsMade text_two e2) d e → IfErr r (λ fault. Changes (FirstAfter text_one one h1 fault) b c)
    → IfErr r (λ fault. Changes (SecondAfter text_two two h2 fault) e f)
    → IfErr r (λ fault. BothChange (LeavesBoth gives leaves one two g1 g2 fault) a c d f)
leaves_both_by gives leaves one two text_one text_two e1 l1 h1 e2 l2 h2 g1 g2 a b c d e f done (Ok x) is_one is_two same_one same_two how hows whole up_one up_two made_one made_two first second =
    tt
leaves_both_by gives leaves one two text_one text_two e1 l1 h1 e2 l2 h2 g1 g2 a b c d e f done (Err fault) is_one is_two same_one same_two how hows whole up_one up_two made_one made_two first second =
    let known : IsKnown gives leaves one two text_one text_two e1 l1 h1 e2 l2 h2 g1 g2 done fault = record {
      beside_one = is_one;
      beside_two = is_two;
      same_one = same_one;
      same_two = same_two;
      how = how;
      hows = hows;
      whole = whole;
      up_one = up_one;
      up_two = up_two;
    } in
    both a c d f (after_both gives leaves one two text_one text_two e1 l1 h1 e2 l2 h2 g1 g2 done fault known)
    (since text_one e1 (FirstAfter text_one one h1 fault) a b c made_one first)
    (since text_two e2 (SecondAfter text_two two h2 fault) d e f made_two second)

-- the fault is of the writing
of_writing : {E : Type 0} (leaves : E → BothWriting) (e1 l1 e2 l2 : Option (List ℕ)) (done : Result (Unit {0}) E)
    (fault : PutBothFault E) → IfErr done (λ why. leaves why e1 l1 e2 l2) → IsWhyOfBoth done fault → IsOfBoth leaves fault
of_writing leaves e1 l1 e2 l2 done (Unmade which why) hows whole = absurd whole
of_writing leaves e1 l1 e2 l2 done (Unwritten why) hows whole =
    (e1, (l1, (e2, (l2, wrote_not (λ e. leaves e e1 l1 e2 l2) done why whole hows))))
of_writing leaves e1 l1 e2 l2 done (Unsynced which why) hows whole = whole.1
of_writing leaves e1 l1 e2 l2 done (Unplaced which why) hows whole = whole.1
of_writing leaves e1 l1 e2 l2 done (Unstored which why) hows whole = whole.1

pub of_writing_by : {E X : Type 0} (leaves : E → BothWriting) (e1 l1 e2 l2 : Option (List ℕ)) (done : Result (Unit {0}) E)
    (r : Result X (PutBothFault E)) → IfErr done (λ why. leaves why e1 l1 e2 l2) → IfErr r (IsWhyOfBoth done)
    → IfErr r (IsOfBoth leaves)
of_writing_by leaves e1 l1 e2 l2 done (Ok x) hows whole = tt
of_writing_by leaves e1 l1 e2 l2 done (Err fault) hows whole = of_writing leaves e1 l1 e2 l2 done fault hows whole

-- why both were not placed, once they were written to their ends
why_placed : {E : Type 0} (done : Result (Unit {0}) E) (fault : PutBothFault E) → done ≡ Ok tt → IsOfPlacing fault
    → IsWhyOfBoth done fault
why_placed done (Unmade which why) is it = absurd it
why_placed done (Unwritten why) is it = absurd it
why_placed done (Unsynced which why) is it = (is, it)
why_placed done (Unplaced which why) is it = (is, it)
why_placed done (Unstored which why) is it = (is, it)

pub why_placed_by : {E X : Type 0} (done : Result (Unit {0}) E) (r : Result X (PutBothFault E)) → done ≡ Ok tt
    → IfErr r IsOfPlacing → IfErr r (IsWhyOfBoth done)
why_placed_by done (Ok x) is it = tt
why_placed_by done (Err fault) is it = why_placed done fault is it

-- and what they leave says nothing of what was given up
not_unwritten : {E : Type 0} (fact : Type 0) (fault : PutBothFault E) → IsOfPlacing fault → IfUnwritten fact fault
not_unwritten fact (Unmade which why) it = tt
not_unwritten fact (Unwritten why) it = absurd it
not_unwritten fact (Unsynced which why) it = tt
not_unwritten fact (Unplaced which why) it = tt
not_unwritten fact (Unstored which why) it = tt

pub not_unwritten_by : {E X : Type 0} (fact : Type 0) (r : Result X (PutBothFault E)) → IfErr r IsOfPlacing
    → IfErr r (IfUnwritten fact)
not_unwritten_by fact (Ok x) it = tt
not_unwritten_by fact (Err fault) it = not_unwritten fact fault it

-- ---- the second cannot be made

-- made, and given up
made_kept : (name text : List ℕ) (empty : Option (List ℕ)) (a b c : Option Entries) → IsBeside name text
    → Changes (IsMade text empty) a b → Changes (KeepsOthers text) b c → Changes (KeepsName name) a c
made_kept name text empty a b c is = then a b c (λ old mid new made kept. kept_name name text empty is old mid new made kept)

same_kept : (name : List ℕ) (a b : Option Entries) → Changes IsSame a b → Changes (KeepsName name) a b
same_kept name a b = so a b (λ old new same. (same name, λ n apart. inl (same n)))

pub second_unmade : {E : Type 0} (gives : BothWriting) (leaves : E → BothWriting) (one two text : List ℕ)
    (empty given_one given_two : Option (List ℕ)) (why : FileFault) (a b c d e : Option Entries) → IsBeside one text
    → Changes (IsMade text empty) a b → Changes (KeepsOthers text) b c → Changes IsSame d e
    → BothChange (LeavesBoth gives leaves one two given_one given_two (Unmade Second why)) a c d e
second_unmade gives leaves one two text empty given_one given_two why a b c d e is made kept same =
    both a c d e (λ w x y z p q. (p, q)) (made_kept one text empty a b c is made kept) (same_kept two d e same)
