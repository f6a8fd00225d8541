-- Undo of a log that undo has begun goes on to the same log, wherever it was interrupted.
use Rattle.std.proofs.Common.{◌≡◌, ◌≢◌, ◌⊎◌, ℕ, suc, ◌<◌, ◌≤◌, Bool, true, false, cond, ◌&&◌, ◌||◌, not, eqb, List, [], ◌∷◌, ◌++◌}
use Rattle.std.proofs.Common.{length, map, take, sym, refl, ap, ap₂, subst, ◌∙◌, inl, inr, arith, eq-eqb, ne_eqb, eqb-true}
use Rattle.std.proofs.Common.{append-nil, append_assoc}
use Rattle.std.specs.Prelude.{reverse}
use Rattle.std.specs.List.{All, AllByRecursion, AllPairs, filter, fold, list_any}
use Rattle.std.specs.List.Sorted.{IsStrictlyIncreasing}
use Rattle.std.proofs.lemmas.Bool.{cases_eq}
use Rattle.std.proofs.lemmas.List.{length_push, reverse-reverse, take_all, take_at}
use Rattle.std.proofs.lemmas.List.Elements.{All-head, All-tail, filter_agree, filter_passes, recursion_from_All}
use Rattle.std.proofs.lemmas.List.Kept.{AllPairs-from_increasing, IsStrictlyIncreasing-filter}
use Rattle.std.proofs.lemmas.Map.Views.{any-filter_same}
use Rattle.std.proofs.Math.Bool.{and-false, and-true, or-false}
use mathlib.Core.List.{reverse-cons}
use Rattle.log_records.specs.declared.record.Record.{Record}
use Rattle.log_records.specs.Log.{IsLog, Log}
use Rattle.log_records.proofs.Public.{valid_cut}
use Rattle.log_rules.specs.declared.pending_change.PendingChange.{PendingChange}
use Rattle.log_rules.specs.Linked.{IsLinked}
use Rattle.log_rules.specs.Transactions.{begun, is_open, open_in, pending, pending_from, txn_of, without_last}
use Rattle.log_rules.proofs.Public.{filter-filter, filter_agree_but, is_open_push_other, is_open_push_own, linked-take}
use Rattle.log_rules.proofs.Public.{not_among, open_has_begun, open_in-IsStrictlyIncreasing, open_in_push_last}
use Rattle.log_rules.proofs.Public.{open_in_push_same, pending_push, records_of_push_other}
use Rattle.loser_undo.specs.Undo.{LostChange, after_undo, comp_of, end_of, is_undone, lost_changes, spent, taken_back}
use Rattle.loser_undo.specs.Undo.{with_comp, with_end}

-- ---- lost changes by their transactions, and by their LSNs

abbrev pub changes_of : ℕ → List LostChange → List PendingChange
changes_of t ls = map (λ (l : LostChange). l.change) (filter (λ l. eqb l.txn t) ls)

abbrev pub Falls : LostChange → LostChange → Type 0
Falls x y = y.change.lsn < x.change.lsn

abbrev AreFalling : List LostChange → Type 0
AreFalling [] = Unit {0}
AreFalling (l ∷ ls) = AllByRecursion (Falls l) ls × AreFalling ls

are_falling : (ls : List LostChange) → AllPairs Falls ls → AreFalling ls
are_falling [] pairs = tt
are_falling (l ∷ ls) pairs = (
  recursion_from_All (Falls l) ls (λ k d lt. pairs 0 (suc k) d (omega arith) (omega (arith, lt))),
  are_falling ls (λ i j d below within. pairs (suc i) (suc j) d (omega (arith, below)) (omega (arith, within))),
)

own : (t : ℕ) (l : LostChange) (ls : List LostChange) → l.txn ≡ t
    → changes_of t (l ∷ ls) ≡ l.change ∷ changes_of t ls
own t l ls same =
    ap (λ b. map (λ (k : LostChange). k.change)
    (cond b (l ∷ filter (λ k. eqb k.txn t) ls) (filter (λ k. eqb k.txn t) ls))) (eq-eqb l.txn t same)

other : (t : ℕ) (l : LostChange) (ls : List LostChange) → l.txn ≢ t → changes_of t (l ∷ ls) ≡ changes_of t ls
other t l ls apart =
    ap (λ b. map (λ (k : LostChange). k.change)
    (cond b (l ∷ filter (λ k. eqb k.txn t) ls) (filter (λ k. eqb k.txn t) ls))) (ne_eqb l.txn t apart)

-- the first of one transaction is one of them
first_below : (x : LostChange) (t : ℕ) (ls : List LostChange) (c : PendingChange) (rest : List PendingChange)
    → AllByRecursion (Falls x) ls → c ∷ rest ≡ changes_of t ls → c.lsn < x.change.lsn
first_below x t [] c rest below is = absurd (cc)
first_below x t (l ∷ ls) c rest below is = elim (cases_eq l.txn t) [
  | inl same ↦
      let both : c ∷ rest ≡ l.change ∷ changes_of t ls = is ∙ own t l ls same in
      let first : c ≡ l.change = cc in
      subst (λ (p : PendingChange). p.lsn < x.change.lsn) (sym first) below.0
  | inr apart ↦ first_below x t ls c rest below.1 (is ∙ other t l ls apart)
]

-- falling ones are the same where those of each transaction are
same_lost : (xs ys : List LostChange) → AreFalling xs → AreFalling ys
    → ((t : ℕ) → changes_of t xs ≡ changes_of t ys) → xs ≡ ys
same_lost [] [] f g each = refl
same_lost [] (y ∷ ys) f g each =
    let no : [] ≡ y.change ∷ changes_of y.txn ys = each y.txn ∙ own y.txn y ys refl in absurd (cc)
same_lost (x ∷ xs) [] f g each =
    let no : x.change ∷ changes_of x.txn xs ≡ [] = sym (own x.txn x xs refl) ∙ each x.txn in absurd (cc)
same_lost (x ∷ xs) (y ∷ ys) f g each = elim (cases_eq y.txn x.txn) [
  | inl same ↦
      let both : x.change ∷ changes_of x.txn xs ≡ y.change ∷ changes_of x.txn ys =
      sym (own x.txn x xs refl) ∙ each x.txn ∙ own x.txn y ys same in
      let change : x.change ≡ y.change = cc in
      ap₂ (λ (t : ℕ) (c : PendingChange). let l : LostChange = record { txn = t; change = c } in l ∷ xs) (sym same) change
      ∙ ap (λ ls. y ∷ ls) (same_lost xs ys f.1 g.1 (λ t. rest t same (cases_eq x.txn t)))
  | inr apart ↦
      let mine : x.change ∷ changes_of x.txn xs ≡ changes_of x.txn ys =
      sym (own x.txn x xs refl) ∙ each x.txn ∙ other x.txn y ys apart in
      let its : y.change ∷ changes_of y.txn ys ≡ changes_of y.txn xs =
      sym (own y.txn y ys refl) ∙ sym (each y.txn) ∙ other y.txn x xs (λ e. apart (sym e)) in
      let less = first_below y x.txn ys x.change (changes_of x.txn xs) g.0 mine in
      let more = first_below x y.txn xs y.change (changes_of y.txn ys) f.0 its in
      absurd (omega (arith, less, more))
]
  where
    rest : (t : ℕ) → y.txn ≡ x.txn → (x.txn ≡ t) ⊎ (x.txn ≢ t) → changes_of t xs ≡ changes_of t ys
    rest t same (inl is) =
        let both : x.change ∷ changes_of t xs ≡ y.change ∷ changes_of t ys =
        sym (own t x xs is) ∙ each t ∙ own t y ys (same ∙ is) in
        cc
    rest t same (inr not_its) =
        sym (other t x xs not_its) ∙ each t ∙ other t y ys (λ e. not_its (sym same ∙ e))

-- ---- lists of numbers

-- a list that rises has one number once
alike : (t : ℕ) (ts : List ℕ) → AllPairs (λ m n. m < n) ts → All (λ n. eqb n t ≡ true) ts
    → list_any (λ n. eqb n t) ts ≡ true → ts ≡ t ∷ []
alike t [] rising all has = absurd (cc)
alike t (x ∷ []) rising all has = ap (λ n. n ∷ []) (eqb-true x t (all 0 x (omega arith)))
alike t (x ∷ y ∷ ts) rising all has =
    let lt : x < y = rising 0 1 x (omega arith) (omega arith) in
    absurd (omega (arith, lt, eqb-true x t (all 0 x (omega arith)), eqb-true y t (all 1 x (omega arith))))

once : (t : ℕ) (ts : List ℕ) → IsStrictlyIncreasing ts → list_any (λ n. eqb n t) ts ≡ true
    → filter (λ n. eqb n t) ts ≡ t ∷ []
once t ts rising has =
    let is = λ (n : ℕ). eqb n t in
    alike t (filter is ts) (AllPairs-from_increasing (filter is ts) (IsStrictlyIncreasing-filter is ts rising))
    (filter_passes is ts) (any-filter_same is is true (λ n same. same) ts ∙ has)

-- where none passes the first test, those that pass one of both pass the second
pass_second : (p q : ℕ → Bool) (ts : List ℕ) → filter p ts ≡ [] → filter (λ n. p n || q n) ts ≡ filter q ts
pass_second p q [] none = refl
pass_second p q (n ∷ ts) none = by (p n) none (pass_second p q ts)
  where
    either : List ℕ
    either = filter (λ n. p n || q n) ts

    by : (b : Bool) → cond b (n ∷ filter p ts) (filter p ts) ≡ [] → (filter p ts ≡ [] → either ≡ filter q ts)
        → cond (b || q n) (n ∷ either) either ≡ cond (q n) (n ∷ filter q ts) (filter q ts)
    by true is more = absurd (cc)
    by false is more = ap (λ xs. cond (q n) (n ∷ xs) xs) (more is)

none_pass : (ts : List ℕ) → filter (λ n. false) ts ≡ []
none_pass [] = refl
none_pass (n ∷ ts) = none_pass ts

without_first : (t : ℕ) (ts : List ℕ) → AllByRecursion (λ n. t < n) ts → filter (λ n. not (eqb n t)) ts ≡ ts
without_first t [] above = refl
without_first t (n ∷ ts) above =
    let lt = above.0 in
    ap (λ b. cond (not b) (n ∷ filter (λ n. not (eqb n t)) ts) (filter (λ n. not (eqb n t)) ts))
    (ne_eqb n t (omega (arith, lt)))
    ∙ ap (λ xs. n ∷ xs) (without_first t ts above.1)

-- ---- a log begins with another one

abbrev pub Begins : List Record → List Record → Type 0
Begins rs whole = (more : List Record) × (whole ≡ rs ++ more)

pub begins_itself : (rs : List Record) → Begins rs rs
begins_itself rs = ([], sym (append-nil rs))

pub begins_with : (rs mid whole : List Record) → Begins rs mid → Begins mid whole → Begins rs whole
begins_with rs mid whole a b =
    (a.0 ++ b.0, b.1 ∙ ap (λ xs. xs ++ b.0) a.1 ∙ append_assoc rs a.0 b.0)

begins_fold : {X : Type 0} (f : List Record → X → List Record) → ((rs : List Record) (x : X) → Begins rs (f rs x))
    → (rs : List Record) (xs : List X) → Begins rs (fold f rs xs)
begins_fold f more rs [] = begins_itself rs
begins_fold f more rs (x ∷ xs) =
    begins_with rs (f rs x) (fold f (f rs x) xs) (more rs x) (begins_fold f more (f rs x) xs)

begins_end : (rs : List Record) (t : ℕ) → Begins rs (with_end rs t)
begins_end rs t = (end_of rs t ∷ [], refl)

begins_comp : (rs : List Record) (l : LostChange) → Begins (with_comp rs l) (taken_back rs l)
unfolding taken_back
begins_comp rs l = by (is_undone (with_comp rs l) l.txn)
  where
    mid : List Record
    mid = with_comp rs l

    by : (b : Bool) → Begins mid (cond b (with_end mid l.txn) mid)
    by true = begins_end mid l.txn
    by false = begins_itself mid

begins_taken : (rs : List Record) (l : LostChange) → Begins rs (taken_back rs l)
begins_taken rs l =
    begins_with rs (with_comp rs l) (taken_back rs l) (comp_of rs l ∷ [], refl) (begins_comp rs l)

pub begins_undo : (rs : List Record) → Begins rs (after_undo rs)
unfolding after_undo
begins_undo rs =
    let ended = fold with_end rs (spent rs) in
    begins_with rs ended (fold taken_back ended (lost_changes rs)) (begins_fold with_end begins_end rs (spent rs))
    (begins_fold taken_back begins_taken ended (lost_changes rs))

-- the log after undo begins with undo's first record, too
begins_ends : (rs : List Record) (t : ℕ) (ts : List ℕ) → spent rs ≡ t ∷ ts → Begins (with_end rs t) (after_undo rs)
unfolding after_undo
begins_ends rs t ts is =
    let ended = fold with_end (with_end rs t) ts in
    let all = begins_with (with_end rs t) ended (fold taken_back ended (lost_changes rs))
    (begins_fold with_end begins_end (with_end rs t) ts) (begins_fold taken_back begins_taken ended (lost_changes rs)) in
    (all.0, ap (λ us. fold taken_back (fold with_end rs us) (lost_changes rs)) is ∙ all.1)

begins_comps : (rs : List Record) (l : LostChange) (ls : List LostChange) → spent rs ≡ [] → lost_changes rs ≡ l ∷ ls
    → Begins (with_comp rs l) (after_undo rs)
unfolding after_undo
begins_comps rs l ls none is =
    let back = taken_back rs l in
    let all = begins_with (with_comp rs l) back (fold taken_back back ls)
    (begins_comp rs l) (begins_fold taken_back begins_taken back ls) in
    (all.0, ap₂ (λ us ks. fold taken_back (fold with_end rs us) ks) none is ∙ all.1)

ends_there : (rs : List Record) → spent rs ≡ [] → lost_changes rs ≡ [] → after_undo rs ≡ rs
unfolding after_undo
ends_there rs none is = ap₂ (λ us ks. fold taken_back (fold with_end rs us) ks) none is

-- ---- a record of another transaction, and the last one of a list

pending_other : (rs : List Record) (r : Record) (t : ℕ) → txn_of r ≢ t → pending (rs ++ r ∷ []) t ≡ pending rs t
pending_other rs r t apart = ap (pending_from []) (records_of_push_other rs r t apart)

none_long : (ps : List PendingChange) → eqb (length ps) 0 ≡ true → ps ≡ []
none_long [] is = refl
none_long (p ∷ ps) is = absurd (omega (arith, eqb-true (length (p ∷ ps)) 0 is))

-- the transaction has changes, or it has none
is_undone_by : (rs : List Record) (t : ℕ) (p : PendingChange) (ps : List PendingChange) → reverse (pending rs t) ≡ p ∷ ps
    → is_undone rs t ≡ false
is_undone_by rs t p ps is = by (pending rs t) is
  where
    by : (qs : List PendingChange) → reverse qs ≡ p ∷ ps → eqb (length qs) 0 ≡ false
    by [] none = absurd (cc)
    by (q ∷ qs) some = ne_eqb (length (q ∷ qs)) 0 (omega arith)

-- ---- what a record of undo leaves to undo

-- what is known of lost changes
pub record UndoLaws : Type 0 where
  pub each : (log : Log) (t : ℕ) → IsLog log → is_open log.records t ≡ true
      → changes_of t (lost_changes log.records) ≡ reverse (pending log.records t)
  pub losers : (rs : List Record) → All (λ l. is_open rs l.txn ≡ true) (lost_changes rs)
  pub falling : (log : Log) → IsLog log → AllPairs Falls (lost_changes log.records)

-- the changes of a transaction that are lost
abbrev lost_of : List Record → ℕ → List PendingChange
lost_of rs t = cond (is_open rs t) (reverse (pending rs t)) []

none_of_closed : (rs : List Record) (t : ℕ) (ls : List LostChange) → is_open rs t ≡ false
    → All (λ l. is_open rs l.txn ≡ true) ls → changes_of t ls ≡ []
none_of_closed rs t [] shut all = refl
none_of_closed rs t (l ∷ ls) shut all =
    let live : is_open rs l.txn ≡ true = All-head (λ (k : LostChange). is_open rs k.txn ≡ true) l ls all in
    let apart : l.txn ≢ t = λ e. let no : true ≡ false = sym live ∙ ap (is_open rs) e ∙ shut in absurd (cc) in
    other t l ls apart
    ∙ none_of_closed rs t ls shut (All-tail (λ (k : LostChange). is_open rs k.txn ≡ true) l ls all)

module _ (laws : UndoLaws) (whole : Log) (valid : IsLog whole) (linked : IsLinked whole.records) where
  -- the first records of the log
  abbrev log_of : List Record → Log
  log_of rs = record whole { records = rs }

  first_are : (rs : List Record) → Begins rs whole.records → take (length rs) whole.records ≡ rs
  first_are rs begins = ap (take (length rs)) begins.1 ∙ take_at rs begins.0 (length rs) refl

  valid_part : (rs : List Record) → Begins rs whole.records → IsLog (log_of rs)
  valid_part rs begins =
      subst (λ (xs : List Record). IsLog (log_of xs)) (first_are rs begins) (valid_cut whole (length rs) valid)

  linked_part : (rs : List Record) → Begins rs whole.records → IsLinked rs
  linked_part rs begins = subst IsLinked (first_are rs begins) (linked-take whole.records linked (length rs))

  lost_each : (rs : List Record) (t : ℕ) → Begins rs whole.records → changes_of t (lost_changes rs) ≡ lost_of rs t
  lost_each rs t begins = by (is_open rs t) refl
    where
      by : (b : Bool) → is_open rs t ≡ b → changes_of t (lost_changes rs) ≡ cond b (reverse (pending rs t)) []
      by true live = laws.each (log_of rs) t (valid_part rs begins) live
      by false shut = none_of_closed rs t (lost_changes rs) shut (laws.losers rs)

  falls : (rs : List Record) → Begins rs whole.records → AreFalling (lost_changes rs)
  falls rs begins = are_falling (lost_changes rs) (laws.falling (log_of rs) (valid_part rs begins))

  module _ (rs : List Record) (goes : after_undo rs ≡ whole.records) where
    part : Begins rs whole.records
    part = let begins = begins_undo rs in (begins.0, sym goes ∙ begins.1)

    rising : IsStrictlyIncreasing (open_in rs)
    rising = open_in-IsStrictlyIncreasing rs (linked_part rs part)

    -- an End of the first that has nothing pending
    module _ (t : ℕ) (ts : List ℕ) (idle : spent rs ≡ t ∷ ts) where
      next : Begins (with_end rs t) whole.records
      next = let begins = begins_ends rs t ts idle in (begins.0, sym goes ∙ begins.1)

      nothing : pending rs t ≡ []
      nothing =
          none_long (pending rs t) (All-head (λ n. is_undone rs n ≡ true) t ts
          (subst (All (λ n. is_undone rs n ≡ true)) idle (filter_passes (is_undone rs) (open_in rs))))

      pub lost_with_end : lost_changes (with_end rs t) ≡ lost_changes rs
      lost_with_end =
          same_lost (lost_changes (with_end rs t)) (lost_changes rs) (falls (with_end rs t) next) (falls rs part)
          (λ u. lost_each (with_end rs t) u next ∙ same u (cases_eq t u) ∙ sym (lost_each rs u part))
        where
          shut : (b : Bool) → cond (b && not true) (reverse (pending (with_end rs t) t)) [] ≡ cond b (reverse {A = PendingChange} []) []
          shut true = refl
          shut false = refl

          same : (u : ℕ) → (t ≡ u) ⊎ (t ≢ u) → lost_of (with_end rs t) u ≡ lost_of rs u
          same u (inl is) = subst (λ n. lost_of (with_end rs t) n ≡ lost_of rs n) is
              (ap (λ b. cond b (reverse (pending (with_end rs t) t)) []) (is_open_push_own rs (end_of rs t) t refl refl)
              ∙ shut (is_open rs t) ∙ ap (λ ps. cond (is_open rs t) (reverse ps) []) (sym nothing))
          same u (inr apart) =
              ap₂ (λ b ps. cond b (reverse ps) []) (is_open_push_other rs (end_of rs t) u apart)
              (pending_other rs (end_of rs t) u apart)

      pub spent_with_end : spent (with_end rs t) ≡ ts
      spent_with_end =
          ap (filter (is_undone (with_end rs t))) (open_in_push_last rs (end_of rs t) refl refl)
          ∙ filter_agree_but t (is_undone (with_end rs t)) (is_undone rs)
          (λ n apart. ap (λ (ps : List PendingChange). eqb (length ps) 0)
          (pending_other rs (end_of rs t) n (λ same. apart (sym same))))
          (filter others (open_in rs)) (not_among others t out (open_in rs))
          ∙ filter-filter others (is_undone rs) (open_in rs)
          ∙ filter_agree (λ n. others n && is_undone rs n) (λ n. is_undone rs n && others n)
          (λ n. swap (others n) (is_undone rs n)) (open_in rs)
          ∙ sym (filter-filter (is_undone rs) others (open_in rs))
          ∙ ap (filter others) idle
          ∙ ap (λ b. cond b (t ∷ filter others ts) (filter others ts)) out
          ∙ without_first t ts (above (subst IsStrictlyIncreasing idle
          (IsStrictlyIncreasing-filter (is_undone rs) (open_in rs) rising)))
        where
          others : ℕ → Bool
          others o = not (eqb o t)

          out : others t ≡ false
          out = ap not (eq-eqb t t refl)

          swap : (a b : Bool) → (a && b) ≡ (b && a)
          swap true true = refl
          swap true false = refl
          swap false true = refl
          swap false false = refl

          above : IsStrictlyIncreasing (t ∷ ts) → AllByRecursion (λ n. t < n) ts
          above increasing =
              recursion_from_All (λ n. t < n) ts
              (λ k d lt. AllPairs-from_increasing (t ∷ ts) increasing 0 (suc k) d (omega arith) (omega (arith, lt)))

      goes_end : after_undo (with_end rs t) ≡ whole.records
      unfolding after_undo
      goes_end =
          ap₂ (λ us ls. fold taken_back (fold with_end (with_end rs t) us) ls) spent_with_end lost_with_end
          ∙ sym (ap (λ us. fold taken_back (fold with_end rs us) (lost_changes rs)) idle) ∙ goes

    -- the compensation of the last change of all
    module _ (l : LostChange) (ls : List LostChange) (none : spent rs ≡ []) (lost : lost_changes rs ≡ l ∷ ls) where
      abbrev t' : ℕ
      t' = l.txn

      abbrev mid : List Record
      mid = with_comp rs l

      next' : Begins mid whole.records
      next' = let begins = begins_comps rs l ls none lost in (begins.0, sym goes ∙ begins.1)

      live : is_open rs t' ≡ true
      live =
          All-head (λ k. is_open rs k.txn ≡ true) l ls
          (subst (All (λ k. is_open rs k.txn ≡ true)) lost (laws.losers rs))

      -- those of its transaction, the last one first
      its : reverse (pending rs t') ≡ l.change ∷ changes_of t' ls
      its =
          sym (ap (λ b. cond b (reverse (pending rs t')) []) live) ∙ sym (lost_each rs t' part)
          ∙ ap (changes_of t') lost ∙ own t' l ls refl

      left : reverse (pending mid t') ≡ changes_of t' ls
      left =
          ap reverse (pending_push rs (comp_of rs l) t' refl
          ∙ ap without_last (sym (reverse-reverse (pending rs t')) ∙ ap reverse its
          ∙ reverse-cons l.change (changes_of t' ls))
          ∙ take_at (reverse (changes_of t' ls)) (l.change ∷ []) _
          (omega (arith, length_push (reverse (changes_of t' ls)) l.change)))
          ∙ reverse-reverse (changes_of t' ls)

      still : is_open mid t' ≡ true
      still = is_open_push_own rs (comp_of rs l) t' refl refl ∙ ap (λ b. b && not false) live

      pub lost_with_comp : lost_changes mid ≡ ls
      lost_with_comp =
          let falling = subst AreFalling lost (falls rs part) in
          same_lost (lost_changes mid) ls (falls mid next') falling.1
          (λ u. lost_each mid u next' ∙ same u (cases_eq t' u))
        where
          same : (u : ℕ) → (t' ≡ u) ⊎ (t' ≢ u) → lost_of mid u ≡ changes_of u ls
          same u (inl is) = subst (λ n. lost_of mid n ≡ changes_of n ls) is
              (ap (λ b. cond b (reverse (pending mid t')) []) still ∙ left)
          same u (inr apart) =
              ap₂ (λ b ps. cond b (reverse ps) []) (is_open_push_other rs (comp_of rs l) u apart)
              (pending_other rs (comp_of rs l) u apart)
              ∙ sym (lost_each rs u part) ∙ ap (changes_of u) lost ∙ other u l ls apart

      pub spent_with_comp : spent mid ≡ cond (is_undone mid t') (t' ∷ []) []
      spent_with_comp =
          ap (filter (is_undone mid)) (open_in_push_same rs (comp_of rs l) refl refl)
          ∙ filter_agree (is_undone mid) (λ n. is_undone rs n || last n) (λ n. either n (cases_eq n t')) (open_in rs)
          ∙ pass_second (is_undone rs) last (open_in rs) none
          ∙ by (is_undone mid t')
        where
          last : ℕ → Bool
          last n = is_undone mid t' && eqb n t'

          either : (n : ℕ) → (n ≡ t') ⊎ (n ≢ t') → is_undone mid n ≡ (is_undone rs n || last n)
          either n (inl same) = subst (λ m. is_undone mid m ≡ (is_undone rs m || last m)) (sym same)
              (sym (ap₂ (λ a b. a || (is_undone mid t' && b)) (is_undone_by rs t' l.change (changes_of t' ls) its) (eq-eqb t' t' refl)
              ∙ and-true (is_undone mid t')))
          either n (inr apart) =
              ap (λ (ps : List PendingChange). eqb (length ps) 0)
              (pending_other rs (comp_of rs l) n (λ same. apart (sym same)))
              ∙ sym (ap (λ b. is_undone rs n || (is_undone mid t' && b)) (ne_eqb n t' apart)
              ∙ ap (λ b. is_undone rs n || b) (and-false (is_undone mid t')) ∙ or-false (is_undone rs n))

          among : list_any (λ n. eqb n t') (open_in rs) ≡ true
          among =
              any-filter_same (λ n. eqb n t') (is_open rs) true
              (λ n same. ap (is_open rs) (eqb-true n t' same) ∙ live) (begun rs)
              ∙ open_has_begun rs t' live

          by : (b : Bool) → filter (λ n. b && eqb n t') (open_in rs) ≡ cond b (t' ∷ []) []
          by true = once t' (open_in rs) rising among
          by false = none_pass (open_in rs)

      goes_comp : after_undo mid ≡ whole.records
      unfolding after_undo taken_back
      goes_comp =
          ap₂ (λ us ks. fold taken_back (fold with_end mid us) ks) spent_with_comp lost_with_comp
          ∙ ap (λ ys. fold taken_back ys ls) (ended (is_undone mid t'))
          ∙ sym (ap₂ (λ us ks. fold taken_back (fold with_end rs us) ks) none lost) ∙ goes
        where
          ended : (b : Bool) → fold with_end mid (cond b (t' ∷ []) []) ≡ cond b (with_end mid t') mid
          ended true = refl
          ended false = refl

  -- ---- so undo of each of its parts goes on to it

  abbrev GoesOnFrom : List Record → Type 0
  GoesOnFrom rs = (k : ℕ) → length rs ≤ k → after_undo (take k whole.records) ≡ whole.records

  one_before : (rs : List Record) (r : Record) → after_undo rs ≡ whole.records → GoesOnFrom (rs ++ r ∷ [])
      → GoesOnFrom rs
  one_before rs r goes more k within = elim (cases_eq k (length rs)) [
    | inl same ↦
        ap (λ n. after_undo (take n whole.records)) same ∙ ap after_undo (first_are rs (part rs goes)) ∙ goes
    | inr apart ↦ more k (omega (arith, within, length_push rs r))
  ]

  abbrev Leaves : List LostChange → Type 0
  Leaves ls = (rs : List Record) → after_undo rs ≡ whole.records → spent rs ≡ [] → lost_changes rs ≡ ls → GoesOnFrom rs

  after_ends : (ls : List LostChange) → Leaves ls → (ts : List ℕ) (rs : List Record) → after_undo rs ≡ whole.records
      → spent rs ≡ ts → lost_changes rs ≡ ls → GoesOnFrom rs
  after_ends ls rest [] rs goes idle lost = rest rs goes idle lost
  after_ends ls rest (t ∷ ts) rs goes idle lost =
      one_before rs (end_of rs t) goes
      (after_ends ls rest ts (with_end rs t) (goes_end rs goes t ts idle) (spent_with_end rs goes t ts idle)
      (lost_with_end rs goes t ts idle ∙ lost))

  after_comps : (ls : List LostChange) → Leaves ls
  after_comps [] rs goes none lost = λ k within.
      let all : whole.records ≡ rs = sym goes ∙ ends_there rs none lost in
      ap after_undo (take_all k whole.records (omega (arith, within, ap length all))) ∙ ap after_undo all ∙ goes
  after_comps (l ∷ ls) rs goes none lost =
      one_before rs (comp_of rs l) goes
      (after_ends ls (after_comps ls) (spent (with_comp rs l)) (with_comp rs l) (goes_comp rs goes l ls none lost) refl
      (lost_with_comp rs goes l ls none lost))

  pub parts_go_on : (rs : List Record) → after_undo rs ≡ whole.records → (k : ℕ) → length rs ≤ k
      → after_undo (take k whole.records) ≡ whole.records
  parts_go_on rs goes = after_ends (lost_changes rs) (after_comps (lost_changes rs)) (spent rs) rs goes refl refl
