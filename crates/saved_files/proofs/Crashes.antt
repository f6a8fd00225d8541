-- What a crash leaves of a file that is put in its place.
use Rattle.std.proofs.Common.{◌≡◌, ◌∙◌, ℕ, inl, inr, List, [], refl, sym, ap, subst}
use Rattle.std.specs.Prelude.{Option, Some, None, Result, Ok, Err, IfSome, OnOk, OnErr}
use Rattle.saved_files.specs.Folder.{Changes, Entries, FolderEntry, HadOrHas, IsBeside, IsMade, IsRenamed, IsSame}
use Rattle.saved_files.specs.Folder.{IsSynced, IsWhole, KeepsOthers, LeavesAsIs, LeavesEither, LeavesOnly, LeavesToo}
use Rattle.saved_files.specs.Folder.{LeavesWhole, MayHave, MayLeave, Puts, PutsOrKeeps, Remains, RenamesOrKeeps}
use Rattle.saved_files.specs.Placed.{IsUnplaced, LeavesTaken, MayTake}
use Rattle.saved_files.specs.PutFault.{Writing, bytes_by}
use Rattle.saved_files.proofs.Puts.{by_test, is_apart, same_start, so, then, wrote}

-- ---- one call after another

-- two facts of one change
also : (P Q : Entries → Entries → Type 0) (a b : Option Entries) → Changes P a b → Changes Q a b
    → Changes (λ old new. P old new × Q old new) a b
also P Q None None p q = tt
also P Q None (Some new) p q = absurd p
also P Q (Some old) None p q = absurd p
also P Q (Some old) (Some new) p q = (p, q)

chain : {such r s t : Remains} → LeavesOnly such r s → LeavesOnly such s t → LeavesOnly such r t
chain one two = record {
  earlier = λ n e it. two.earlier n e (one.earlier n e it);
  only = λ n e it. elim (two.only n e it) [
    | inl before ↦ one.only n e before
    | inr got ↦ inr got
  ];
}

wider : {such more r s : Remains} → ((n : List ℕ) (e : FolderEntry) → such n e → more n e) → LeavesOnly such r s
    → LeavesOnly more r s
wider more it = record {
  earlier = it.earlier;
  only = λ n e left. elim (it.only n e left) [
    | inl before ↦ inl before
    | inr got ↦ inr (more n e got)
  ];
}

-- what stood and what stands is such
within : {r s : Remains} (such : Remains) (old new : Entries) → MayLeave such old → MayLeave such new
    → LeavesEither r s old new → LeavesOnly such r s
within such old new a b = wider (λ n e had. elim had [
  | inl is ↦ subst (λ x. such n x) (sym is) (a n)
  | inr is ↦ subst (λ x. such n x) (sym is) (b n)
])

-- nothing happened
pub here : (r : Remains) (a : Option Entries) → Changes (LeavesEither r r) a a
here r None = tt
here r (Some a) = record { earlier = λ n e it. it; only = λ n e it. inl it }

-- nothing was changed before
pub after_same : (r s t : Remains) (a b c : Option Entries) → Changes IsSame a b → Changes (LeavesEither r s) a b
    → Changes (LeavesEither s t) b c → Changes (LeavesEither r t) a c
after_same r s t a b c same one = then a b c (λ (old mid new : Entries) (p : IsSame old mid × LeavesEither r s old mid)
    (q : LeavesEither s t mid new). chain
    (within (HadOrHas old new) old mid (λ n. inl refl) (λ n. inl (p.0 n)) p.1)
    (within (HadOrHas old new) mid new (λ n. inl (p.0 n)) (λ n. inr refl) q))
    (also IsSame (LeavesEither r s) a b same one)

-- ---- a file that comes to its name

-- the name beside it may have anything
kept_taken : (beside name : List ℕ) (fits : List ℕ → Type 0) (a b c : Entries)
    → MayLeave (MayTake beside name fits a) b → KeepsOthers beside b c → MayLeave (MayTake beside name fits a) c
kept_taken beside name fits a b c mid kept = λ n. elim (by_test n beside) [
  | inl same ↦ inl same
  | inr other ↦ subst (λ e. MayTake beside name fits a n e) (sym (kept n other)) (mid n)
]

renamed_taken : (beside name : List ℕ) (fits : List ℕ → Type 0) (a b c : Entries)
    → MayLeave (MayTake beside name fits a) b → IsWhole fits (b beside) → RenamesOrKeeps beside name b c
    → MayLeave (MayTake beside name fits a) c
renamed_taken beside name fits a b c mid whole (inl renamed) = λ n. elim (by_test n beside) [
  | inl same ↦ inl same
  | inr other ↦ elim (by_test n name) [
    | inl same ↦ inr (inr (same, subst (λ e. IsWhole fits e) (sym (ap c same ∙ renamed.moved)) whole))
    | inr away ↦ subst (λ e. MayTake beside name fits a n e) (sym (renamed.others n other away)) (mid n)
  ]
]
renamed_taken beside name fits a b c mid whole (inr same) =
    λ n. subst (λ e. MayTake beside name fits a n e) (sym (same n)) (mid n)

-- only the name beside it changed
pub left_taken : (beside name : List ℕ) (fits : List ℕ → Type 0) (r s : Remains) (a b : Option Entries)
    → Changes (KeepsOthers beside) a b → Changes (LeavesEither r s) a b
    → Changes (LeavesTaken beside name fits r s) a b
left_taken beside name fits r s a b kept leaves = so a b (λ old new it.
    within (MayTake beside name fits old) old new (λ n. inr (inl refl))
    (kept_taken beside name fits old old new (λ n. inr (inl refl)) it.0) it.1)
    (also (KeepsOthers beside) (LeavesEither r s) a b kept leaves)

-- synced and renamed, or perhaps not renamed
pub taken : (beside name : List ℕ) (contents : Option (List ℕ)) (r s t : Remains) (a b c : Option Entries)
    → Changes (IsSynced beside contents) a b → Changes (LeavesEither r s) a b
    → Changes (RenamesOrKeeps beside name) b c → Changes (LeavesEither s t) b c
    → Changes (LeavesTaken beside name (λ bytes. contents ≡ Some bytes) r t) a c
taken beside name contents r s t a b c synced one renamed two =
    then a b c (λ old mid new p q.
    let fits : List ℕ → Type 0 = λ bytes. contents ≡ Some bytes in
    let at_mid : MayLeave (MayTake beside name fits old) mid =
    kept_taken beside name fits old old mid (λ n. inr (inl refl)) p.0.others in
    let whole : IsWhole fits (mid beside) = (p.0.bytes, p.0.whole, p.0.synced) in
    chain (within (MayTake beside name fits old) old mid (λ n. inr (inl refl)) at_mid p.1)
    (within (MayTake beside name fits old) mid new at_mid
    (renamed_taken beside name fits old mid new at_mid whole q.0) q.1))
    (also (IsSynced beside contents) (LeavesEither r s) a b synced one)
    (also (RenamesOrKeeps beside name) (LeavesEither s t) b c renamed two)

pub taken_ok : (beside name : List ℕ) (contents : Option (List ℕ)) (r s t : Remains) (a b c : Option Entries)
    → Changes (IsSynced beside contents) a b → Changes (LeavesEither r s) a b
    → Changes (IsRenamed beside name) b c → Changes (LeavesEither s t) b c
    → Changes (LeavesTaken beside name (λ bytes. contents ≡ Some bytes) r t) a c
taken_ok beside name contents r s t a b c synced one renamed two =
    taken beside name contents r s t a b c synced one (so b c (λ old new it. inl it) renamed) two

-- what a crash leaves of a file that was written to its end
whole_so : (fits more : List ℕ → Type 0) (e : FolderEntry) → ((bytes : List ℕ) → fits bytes → more bytes)
    → IsWhole fits e → IsWhole more e
whole_so fits more e imply it = (it.0, imply it.0 it.1, it.2)

taken_so : (beside name : List ℕ) (fits more : List ℕ → Type 0) (old : Entries)
    → ((bytes : List ℕ) → fits bytes → more bytes) → (n : List ℕ) (e : FolderEntry)
    → MayTake beside name fits old n e → MayTake beside name more old n e
taken_so beside name fits more old imply n e (inl same) = inl same
taken_so beside name fits more old imply n e (inr (inl had)) = inr (inl had)
taken_so beside name fits more old imply n e (inr (inr it)) = inr (inr (it.0, whole_so fits more e imply it.1))

pub written_taken : {E : Type 0} (beside name : List ℕ) (contents : Option (List ℕ)) (done : Result (Unit {0}) E)
    (r s : Remains) (a b : Option Entries) → done ≡ Ok tt
    → Changes (LeavesTaken beside name (λ bytes. contents ≡ Some bytes) r s) a b
    → Changes (LeavesTaken beside name (λ bytes. (done ≡ Ok tt) × (contents ≡ Some bytes)) r s) a b
written_taken beside name contents done r s a b is = so a b (λ old new it.
    wider (taken_so beside name (λ bytes. contents ≡ Some bytes)
    (λ bytes. (done ≡ Ok tt) × (contents ≡ Some bytes)) old (λ bytes fit. (is, fit))) it)

-- not placed
unplaced_may : (beside name : List ℕ) (contents : Option (List ℕ)) (old new : Entries)
    → IsUnplaced beside name contents old new
    → MayLeave (MayTake beside name (λ bytes. contents ≡ Some bytes) old) new
unplaced_may beside name contents old new it = λ n. elim (by_test n beside) [
  | inl same ↦ inl same
  | inr other ↦ elim (by_test n name) [
    | inl same ↦ elim (it.either (λ equal. other (same ∙ sym equal))) [
      | inl whole ↦ inr (inr (same, (whole.0, whole.1, ap new same ∙ whole.2)))
      | inr stays ↦ inr (inl (ap new same ∙ stays ∙ sym (ap old same)))
    ]
    | inr away ↦ inr (inl (it.others n other away))
  ]
]

-- and given up
pub then_given_up : {E : Type 0} (beside name : List ℕ) (contents : Option (List ℕ)) (done : Result (Unit {0}) E)
    (r s t : Remains) (a b c : Option Entries) → done ≡ Ok tt → Changes (IsUnplaced beside name contents) a b
    → Changes (LeavesTaken beside name (λ bytes. contents ≡ Some bytes) r s) a b
    → Changes (KeepsOthers beside) b c → Changes (LeavesEither s t) b c
    → Changes (LeavesTaken beside name (λ bytes. (done ≡ Ok tt) × (contents ≡ Some bytes)) r t) a c
then_given_up beside name contents done r s t a b c is unplaced one kept two =
    written_taken beside name contents done r t a c is
    (then a b c (λ old mid new p q.
    let fits : List ℕ → Type 0 = λ bytes. contents ≡ Some bytes in
    let at_mid : MayLeave (MayTake beside name fits old) mid = unplaced_may beside name contents old mid p.0 in
    chain p.1 (within (MayTake beside name fits old) mid new at_mid
    (kept_taken beside name fits old mid new at_mid q.0) q.1))
    (also (IsUnplaced beside name contents) (LeavesTaken beside name (λ bytes. contents ≡ Some bytes) r s) a b
    unplaced one)
    (also (KeepsOthers beside) (LeavesEither s t) b c kept two))

-- what it leaves, by the text of the name
pub written_taken_by : {E : Type 0} (text beside name : List ℕ) (contents : Option (List ℕ))
    (done : Result (Unit {0}) E) (r s : Remains) (a b : Option Entries) → text ≡ beside → done ≡ Ok tt
    → Changes (LeavesTaken text name (λ bytes. contents ≡ Some bytes) r s) a b
    → Changes (LeavesTaken beside name (λ bytes. (done ≡ Ok tt) × (contents ≡ Some bytes)) r s) a b
written_taken_by text beside name contents done r s a b same is it =
    subst (λ t. Changes (LeavesTaken t name (λ bytes. (done ≡ Ok tt) × (contents ≡ Some bytes)) r s) a b) same
    (written_taken text name contents done r s a b is it)

pub then_given_up_by : {E : Type 0} (text beside name : List ℕ) (contents : Option (List ℕ))
    (done : Result (Unit {0}) E) (r s t : Remains) (a b c : Option Entries) → text ≡ beside → done ≡ Ok tt
    → Changes (IsUnplaced text name contents) a b
    → Changes (LeavesTaken text name (λ bytes. contents ≡ Some bytes) r s) a b
    → Changes (KeepsOthers beside) b c → Changes (LeavesEither s t) b c
    → Changes (LeavesTaken beside name (λ bytes. (done ≡ Ok tt) × (contents ≡ Some bytes)) r t) a c
then_given_up_by text beside name contents done r s t a b c same is unplaced one =
    then_given_up beside name contents done r s t a b c is
    (subst (λ n. Changes (IsUnplaced n name contents) a b) same unplaced)
    (subst (λ n. Changes (LeavesTaken n name (λ bytes. contents ≡ Some bytes) r s) a b) same one)

-- ---- a file that is put in its place

-- it was not made
pub left_unmade : (name : List ℕ) (fits : List ℕ → Type 0) (r s : Remains) (a b : Option Entries)
    → Changes IsSame a b → Changes (LeavesEither r s) a b → Changes (LeavesWhole name fits r s) a b
left_unmade name fits r s a b same leaves = so a b (λ old new it.
    within (MayHave name fits old) old new (λ n. inl refl) (λ n. inl (it.0 n)) it.1)
    (also IsSame (LeavesEither r s) a b same leaves)

-- made beside it
made_may : (name beside : List ℕ) (fits : List ℕ → Type 0) (empty : Option (List ℕ)) (old mid : Entries)
    → IsBeside name beside → IsMade beside empty old mid → MayLeave (MayHave name fits old) mid
made_may name beside fits empty old mid is made = λ n. elim (by_test n beside) [
  | inl same ↦ inr (inr (ap old same ∙ made.fresh, (is.0, same ∙ is.1)))
  | inr other ↦ inl (made.others n other)
]

taken_had : (name beside : List ℕ) (fits more : List ℕ → Type 0) (empty : Option (List ℕ)) (old mid : Entries)
    → IsBeside name beside → IsMade beside empty old mid → ((bytes : List ℕ) → fits bytes → more bytes)
    → (n : List ℕ) (e : FolderEntry) → MayTake beside name fits mid n e → MayHave name more old n e
taken_had name beside fits more empty old mid is made imply n e (inl same) =
    inr (inr (ap old same ∙ made.fresh, (is.0, same ∙ is.1)))
taken_had name beside fits more empty old mid is made imply n e (inr (inl had)) =
    subst (λ x. MayHave name more old n x) (sym had) (made_may name beside more empty old mid is made n)
taken_had name beside fits more empty old mid is made imply n e (inr (inr it)) =
    inr (inl (it.0, whole_so fits more e imply it.1))

pub whole_left : {E : Type 0} (name beside : List ℕ) (gives : Writing) (empty last held : Option (List ℕ))
    (done : Result (Unit {0}) E) (r s t : Remains) (a b c : Option Entries) → IsBeside name beside
    → OnOk done (gives empty last) → held ≡ last → Changes (IsMade beside empty) a b → Changes (LeavesEither r s) a b
    → Changes (LeavesTaken beside name (λ bytes. (done ≡ Ok tt) × (held ≡ Some bytes)) s t) b c
    → Changes (LeavesWhole name (bytes_by gives) r t) a c
whole_left name beside gives empty last held done r s t a b c is how same made one =
    then a b c (λ old mid new p q.
    let imply : (bytes : List ℕ) → (done ≡ Ok tt) × (held ≡ Some bytes) → bytes_by gives bytes =
    λ bytes it. subst (λ h. gives (Some []) h) it.1
    (same_start gives empty last held p.0.empty same (wrote (gives empty last) done it.0 how)) in
    chain (within (MayHave name (bytes_by gives) old) old mid (λ n. inl refl)
    (made_may name beside (bytes_by gives) empty old mid is p.0) p.1)
    (wider (taken_had name beside (λ bytes. (done ≡ Ok tt) × (held ≡ Some bytes)) (bytes_by gives)
    empty old mid is p.0 imply) q))
    (also (IsMade beside empty) (LeavesEither r s) a b made one)

-- the names could not be stored
puts_may : (name : List ℕ) (fits : List ℕ → Type 0) (old new : Entries) → Puts name fits old new
    → MayLeave (MayHave name fits old) new
puts_may name fits old new it = λ n. elim (by_test n name) [
  | inl same ↦ inr (inl (same, (it.bytes, it.right, ap new same ∙ it.put)))
  | inr other ↦ inl (it.others n other)
]

unstored : (name : List ℕ) (fits : List ℕ → Type 0) (r s t : Remains) (a b c : Option Entries)
    → Changes (Puts name fits) a b → Changes (LeavesWhole name fits r s) a b → Changes IsSame b c
    → Changes (LeavesEither s t) b c → Changes (LeavesWhole name fits r t) a c
unstored name fits r s t a b c put one same two =
    then a b c (λ old mid new p q.
    let at_mid : MayLeave (MayHave name fits old) mid = puts_may name fits old mid p.0 in
    chain p.1 (within (MayHave name fits old) mid new at_mid
    (λ n. subst (λ e. MayHave name fits old n e) (sym (q.0 n)) (at_mid n)) q.1))
    (also (Puts name fits) (LeavesWhole name fits r s) a b put one)
    (also IsSame (LeavesEither s t) b c same two)

pub unstored_left : {E X : Type 0} (name : List ℕ) (fits : List ℕ → Type 0) (r s t : Remains)
    (a b c : Option Entries) (done : Result X E) → Changes (Puts name fits) a b
    → Changes (LeavesWhole name fits r s) a b → Changes IsSame b c → OnErr done (Changes (LeavesEither s t) b c)
    → OnErr done (Changes (LeavesWhole name fits r t) a c)
unstored_left name fits r s t a b c (Ok x) put one same two = tt
unstored_left name fits r s t a b c (Err why) put one same two = unstored name fits r s t a b c put one same two

-- ---- what a crash leaves then

-- on the way
way : (name : List ℕ) (fits : List ℕ → Type 0) (before between after : Remains) (old new left : Entries)
    → LeavesAsIs before old → LeavesWhole name fits before after old new → LeavesToo between after
    → MayLeave between left → PutsOrKeeps name fits old left
way name fits before between after old new left lasts whole too may = record {
  either = elim (at name) [
    | inl same ↦ inr same
    | inr (inl it) ↦ inl it.1
    | inr (inr it) ↦ absurd (is_apart name name it.1 refl)
  ];
  others = λ n apart. elim (at n) [
    | inl same ↦ inl same
    | inr (inl it) ↦ absurd (apart it.0)
    | inr (inr it) ↦ inr it
  ];
}
  where
    at : (n : List ℕ) → MayHave name fits old n (left n)
    at n = elim (whole.only n (left n) (too n (left n) (may n))) [
      | inl earlier ↦ inl (lasts n (left n) earlier)
      | inr got ↦ got
    ]

meanwhile_known : (name : List ℕ) (fits : List ℕ → Type 0) (before between after : Remains) (old left : Entries)
    (b : Option Entries) → LeavesAsIs before old → Changes (LeavesWhole name fits before after) (Some old) b
    → LeavesToo between after → MayLeave between left → PutsOrKeeps name fits old left
meanwhile_known name fits before between after old left None lasts whole too may = absurd whole
meanwhile_known name fits before between after old left (Some new) lasts whole too may =
    way name fits before between after old new left lasts whole too may

pub meanwhile : (name : List ℕ) (fits : List ℕ → Type 0) (before between after : Remains) (old left : Entries)
    (a b : Option Entries) → IfSome a (LeavesAsIs before) → a ≡ Some old
    → Changes (LeavesWhole name fits before after) a b → LeavesToo between after → MayLeave between left
    → PutsOrKeeps name fits old left
meanwhile name fits before between after old left a b lasts is whole =
    meanwhile_known name fits before between after old left b (subst (λ x. IfSome x (LeavesAsIs before)) is lasts)
    (subst (λ x. Changes (LeavesWhole name fits before after) x b) is whole)

-- and once the names are stored
pub as_it_stands : (after : Remains) (new left : Entries) (a : Option Entries) → IfSome a (LeavesAsIs after)
    → a ≡ Some new → MayLeave after left → IsSame new left
as_it_stands after new left a lasts is may =
    let known : LeavesAsIs after new = subst (λ x. IfSome x (LeavesAsIs after)) is lasts in
    λ n. known n (left n) (may n)
