-- Where a transaction may go back to, by what is kept of it.
use Rattle.std.proofs.Common.{◌≡◌, ℕ, ◌-◌, ◌<◌, ◌≤◌, Bool, true, false, cond, ◌⊎◌}
use Rattle.std.proofs.Common.{eqb, List, [], ◌∷◌, ◌++◌}
use Rattle.std.proofs.Common.{append_assoc, get_or, slice_get, length, drop, refl, sym, ap, ap₂}
use Rattle.std.proofs.Common.{subst, ◌∙◌, inl, inr, arith}
use Rattle.std.specs.Prelude.{Option, Some, None, IsSomeAnd, Contains}
use Rattle.std.specs.List.{All, starts_with}
use Rattle.std.specs.Option.{option_and_then}
use Rattle.std.proofs.lemmas.Bool.{cases_lt}
use Rattle.std.proofs.lemmas.Bool.Decides.{Decides-eqb}
use Rattle.std.proofs.lemmas.Slice.Eq.{starts_is}
use Rattle.std.proofs.lemmas.List.{append-nil, get_or-append_right, get_or_append_left}
use Rattle.std.proofs.lemmas.List.{length-append, length_push, map-append}
use Rattle.std.proofs.lemmas.List.Elements.{All-get_or, All-head, All-map, All-nil, All-tail}
use Rattle.std.proofs.lemmas.Option.{get_or_from_slice_get, slice_get-get_or, slice_get_within}
use Rattle.page_core.specs.declared.change.Change.TheVariants.{Add}
use Rattle.log_records.specs.declared.record.Record.{Record}
use Rattle.log_records.specs.Log.{IsLog, Log}
use Rattle.log_rules.specs.declared.pending_change.PendingChange.{PendingChange}
use Rattle.txn_table.specs.CountUpTo.{AreRising, IsCountUpTo}
use Rattle.log_rules.specs.Linked.{IsLinked}
use Rattle.log_rules.specs.Savepoints.{lsns_of, savepoint, stack_at}
use Rattle.log_rules.specs.Transactions.{first_lsn, is_open, is_rolling, pending}
use Rattle.txn_table.specs.declared.returns.Return.{Return}
use Rattle.txn_table.specs.Returns.{returns_of}
use Rattle.txn_table.proofs.Stacks.{Splits}
use Rattle.txn_table.proofs.Going.{return_at, IsKind, IsKnown, IsUpdateAt, IsLeftAt, IsGoing, Facts}
use Rattle.txn_table.proofs.Going.{facts_of_log}

-- ---- what stands, by the count of the changes up to there

-- of changes up to an LSN and some above it
pub counted : (common new : List PendingChange) (at count : ℕ) → AreRising (common ++ new)
    → All (λ p. p.lsn ≤ at) common → All (λ p. at < p.lsn) new → IsCountUpTo (common ++ new) at count
    → count ≡ length common
counted common new at count rising low high is = by (cases_lt count (length common)) (cases_lt (length common) count)
  where
    d : PendingChange
    d = record { lsn = 0; prev = 0; page = 0; slot = 0; change = Add 0 }

    by : (count < length common) ⊎ (length common ≤ count) → (length common < count) ⊎ (count ≤ length common)
        → count ≡ length common
    by (inl less) other =
        let long = length-append common new in
        let above = is.above rising count d (omega arith) (omega (arith, long, less)) in
        let here = All-get_or (λ (p : PendingChange). p.lsn ≤ at) common count d less low in
        let same = ap (λ (p : PendingChange). p.lsn) (get_or_append_left common new d count less) in
        absurd (omega (arith, above, here, same))
    by (inr le) (inl more) =
        let long = length-append common new in
        let within = is.within in
        let some : 0 < length new = omega (arith, long, within, more) in
        let below = is.below rising (length common) d more in
        let here = All-get_or (λ (p : PendingChange). at < p.lsn) new 0 d some high in
        let none : length common - length common ≡ 0 = omega arith in
        let same = ap (λ (p : PendingChange). p.lsn)
        (get_or-append_right common new (length common) (length common) d refl (omega arith)
        ∙ ap (λ n. get_or new n d) none) in
        absurd (omega (arith, below, here, same))
    by (inr le) (inr ge) = omega arith

-- the numbers of both begin alike, so nothing is gone
pub none_gone : (cs ns gs rest : List ℕ) (at : ℕ) → All (λ n. at < n) ns → All (λ n. n ≤ at) gs
    → cs ++ ns ≡ (cs ++ gs) ++ rest → gs ≡ []
none_gone [] ns [] rest at high low same = refl
none_gone [] [] (g ∷ gs) rest at high low same = cc
none_gone [] (n ∷ ns) (g ∷ gs) rest at high low same =
    let one : n ≡ g = cc in
    absurd (omega (arith, one, All-head (λ m. at < m) n ns high, All-head (λ m. m ≤ at) g gs low))
none_gone (c ∷ cs) ns gs rest at high low same =
    let tail : cs ++ ns ≡ (cs ++ gs) ++ rest = cc in none_gone cs ns gs rest at high low tail

pub nothing : (changes : List PendingChange) → lsns_of changes ≡ [] → changes ≡ []
nothing [] none = refl
nothing (p ∷ ps) none = cc

pub All-right : (P : PendingChange → Type 0) (xs ys : List PendingChange) → All P (xs ++ ys) → All P ys
All-right P [] ys all = all
All-right P (x ∷ xs) ys all = All-right P xs ys (All-tail P x (xs ++ ys) all)

pub All-left : (P : PendingChange → Type 0) (xs ys : List PendingChange) → All P (xs ++ ys) → All P xs
All-left P [] ys all = All-nil P
All-left P (x ∷ xs) ys all =
    λ i d lt. subst P (get_or_append_left (x ∷ xs) ys d i lt) (all i d (omega (arith, lt, length-append (x ∷ xs) ys)))

abbrev pub begins_with : List PendingChange → List PendingChange → Bool
begins_with now stack = starts_with eqb (lsns_of now) (lsns_of stack)

pub starts : (now stack : List PendingChange)
    → (begins_with now stack ≡ true → lsns_of now ≡ lsns_of stack ++ drop (length (lsns_of stack)) (lsns_of now))
    × ((rest : List ℕ) → lsns_of now ≡ lsns_of stack ++ rest → begins_with now stack ≡ true)
starts now stack = starts_is Decides-eqb (lsns_of now) (lsns_of stack) (begins_with now stack) refl

pub gone_from_start : (now stack : List PendingChange) (at : ℕ) (s : Splits now stack at) → All (λ p. p.lsn ≤ at) stack
    → begins_with now stack ≡ true → s.gone ≡ []
gone_from_start now stack at s low is =
    let lsn = λ (p : PendingChange). p.lsn in
    let all = subst (All (λ (p : PendingChange). p.lsn ≤ at)) s.stack_is low in
    let same = sym (ap lsns_of s.now_is ∙ map-append lsn s.common s.new)
    ∙ (starts now stack).0 is
    ∙ ap (λ xs. xs ++ drop (length (lsns_of stack)) (lsns_of now)) (ap lsns_of s.stack_is ∙ map-append lsn s.common s.gone) in
    nothing s.gone
    (none_gone (lsns_of s.common) (lsns_of s.new) (lsns_of s.gone) (drop (length (lsns_of stack)) (lsns_of now)) at
    (All-map (λ n. at < n) lsn s.new s.above)
    (All-map (λ n. n ≤ at) lsn s.gone (All-right (λ (p : PendingChange). p.lsn ≤ at) s.common s.gone all)) same)

pub start_from_gone : (now stack : List PendingChange) (at : ℕ) (s : Splits now stack at) → s.gone ≡ []
    → begins_with now stack ≡ true
start_from_gone now stack at s none =
    (starts now stack).1 (lsns_of s.new)
    (ap lsns_of (s.now_is ∙ ap (λ xs. xs ++ s.new)
    (sym (s.stack_is ∙ ap (λ xs. s.common ++ xs) none ∙ append-nil s.common)))
    ∙ map-append (λ (p : PendingChange). p.lsn) stack s.new)

-- ---- what the code finds

-- of the first so many pending changes the last one has this LSN
abbrev pub IsUpdateIn : List Record → ℕ → ℕ → ℕ → Type 0
IsUpdateIn rs t count at =
    (0 < count) × IsSomeAnd (slice_get (pending rs t) (count - 1)) (λ p. p.lsn ≡ at)

-- the record at this LSN is the Begin, the Update of a pending change, or a Comp that left so many
abbrev pub IsFound : List Record → ℕ → ℕ → ℕ → Type 0
IsFound rs t count at = (first_lsn rs t ≡ at)
    ⊎ (IsUpdateIn rs t count at ⊎ Contains (returns_of rs) (return_at at t count))

-- the count of a stack that is known
pub count_of : (rs : List Record) (t at count : ℕ) (stack : List PendingChange) → IsGoing rs t
    → (known : IsKnown rs t at stack) → IsCountUpTo (pending rs t) at count → count ≡ length known.splits.common
count_of rs t at count stack going known is =
    let s = known.splits in
    counted s.common s.new at count (subst AreRising s.now_is going.rising)
    (All-left (λ (p : PendingChange). p.lsn ≤ at) s.common s.gone
    (subst (All (λ (p : PendingChange). p.lsn ≤ at)) s.stack_is known.below)) s.above
    (subst (λ xs. IsCountUpTo xs at count) s.now_is is)

abbrev pub by_stack : List Record → ℕ → List PendingChange → Option ℕ
by_stack rs t stack = cond (begins_with (pending rs t) stack) (Some (length stack)) None

-- nothing is gone of a stack, so it is a savepoint of as many changes as there are up to it
pub goes_back : (rs : List Record) (t at count : ℕ) (stack : List PendingChange) → IsGoing rs t
    → stack_at rs t at ≡ Some stack → (known : IsKnown rs t at stack) → IsCountUpTo (pending rs t) at count
    → known.splits.gone ≡ [] → savepoint rs t at ≡ Some count
goes_back rs t at count stack going is known counts none =
    let s = known.splits in
    let long : length stack ≡ count =
    ap length (s.stack_is ∙ ap (λ xs. s.common ++ xs) none ∙ append-nil s.common)
    ∙ sym (count_of rs t at count stack going known counts) in
    ap (option_and_then (by_stack rs t)) is
    ∙ ap (λ b. cond b (Some (length stack)) None) (start_from_gone (pending rs t) stack at s none) ∙ ap Some long

-- what is found is a savepoint
pub found_is : (rs : List Record) (t at count : ℕ) → Facts rs t → IsCountUpTo (pending rs t) at count
    → IsFound rs t count at → savepoint rs t at ≡ Some count
found_is rs t at count facts counts (inl first) =
    let is : stack_at rs t at ≡ Some [] = sym (ap (stack_at rs t) first) ∙ facts.going.first in
    let known = facts.going.known at [] is in
    goes_back rs t at count [] facts.going is known counts (empty known.splits.common known.splits.gone known.splits.stack_is)
  where
    empty : (common gone : List PendingChange) → [] ≡ common ++ gone → gone ≡ []
    empty [] gone same = sym same
    empty (c ∷ cs) gone same = cc
found_is rs t at count facts counts (inr (inl update)) = by (slice_get ps (count - 1)) refl update.1
  where
    ps : List PendingChange
    ps = pending rs t

    by : (o : Option PendingChange) → slice_get (pending rs t) (count - 1) ≡ o → IsSomeAnd o (λ p. p.lsn ≡ at)
        → savepoint rs t at ≡ Some count
    by None o none = absurd none
    by (Some p) o has =
        let within = slice_get_within (pending rs t) (count - 1) p o in
        let here : get_or (pending rs t) (count - 1) p ≡ p = get_or_from_slice_get (pending rs t) (count - 1) p p o in
        let there = subst (λ (q : PendingChange). IsUpdateAt rs t q.lsn) here
        (All-get_or (λ (q : PendingChange). IsUpdateAt rs t q.lsn) (pending rs t) (count - 1) p within facts.going.updates) in
        let is : stack_at rs t at ≡ Some there.0 = ap (stack_at rs t) (sym has) ∙ there.1.0 in
        let known = facts.going.known at there.0 is in
        let s = known.splits in
        goes_back rs t at count there.0 facts.going is known counts
        (none s.common s.gone s.new at count p (count_of rs t at count there.0 facts.going known counts) update.0 has
        (sym (ap (λ xs. get_or xs (count - 1) p) s.now_is) ∙ here)
        (subst AreRising s.stack_is known.rising)
        (subst (All (λ (q : PendingChange). q.lsn ≤ at)) s.stack_is known.below))
      where
        none : (common gone new : List PendingChange) (at count : ℕ) (p : PendingChange) → count ≡ length common
            → 0 < count → p.lsn ≡ at → get_or (common ++ new) (count - 1) p ≡ p → AreRising (common ++ gone)
            → All (λ q. q.lsn ≤ at) (common ++ gone) → gone ≡ []
        none common [] new at count p is some last here rising low = refl
        none common (g ∷ gs) new at count p is some last here rising low =
            let lt : count - 1 < length common = omega arith in
            let before = get_or_append_left common new p (count - 1) lt in
            let one = get_or_append_left common (g ∷ gs) p (count - 1) lt in
            let first : length common - length common ≡ 0 = omega arith in
            let two = get_or-append_right common (g ∷ gs) (length common) (length common) p refl (omega arith)
            ∙ ap (λ n. get_or (g ∷ gs) n p) first in
            let long = length-append common (g ∷ gs) in
            let rises = rising (count - 1) (length common) p (omega arith) (omega (arith, long)) in
            let high = All-head (λ (q : PendingChange). q.lsn ≤ at) g gs
            (All-right (λ (q : PendingChange). q.lsn ≤ at) common (g ∷ gs) low) in
            let lsn = λ (q : PendingChange). q.lsn in
            absurd (omega (arith, ap lsn before, ap lsn one, ap lsn two, ap lsn here, rises, high, last))
found_is rs t at count facts counts (inr (inr there)) =
    let left = Contained (IsLeftAt rs) (returns_of rs) (return_at at t count) there facts.left in
    let known = facts.going.known at left.0 left.1.0 in
    let s = known.splits in
    goes_back rs t at count left.0 facts.going left.1.0 known counts
    (short s.gone (omega (
      arith,
      left.1.1,
      count_of rs t at count left.0 facts.going known counts,
      ap length s.stack_is,
      length-append s.common s.gone,
    )))
  where
    Contained : (P : Return → Type 0) (xs : List Return) (x : Return) → Contains xs x → All P xs → P x
    Contained P xs x there all = subst P (there.2) (all there.0 x there.1)

    short : (gone : List PendingChange) → length gone ≡ 0 → gone ≡ []
    short [] none = refl
    short (g ∷ gs) none = absurd (omega (arith, none))

-- a savepoint is found
pub is_found : (rs : List Record) (t at count : ℕ) → Facts rs t → IsCountUpTo (pending rs t) at count
    → (IsFound rs t count at → ⊥) → savepoint rs t at ≡ None
is_found rs t at count facts counts never = by (stack_at rs t at) refl
  where
    by : (o : Option (List PendingChange)) → stack_at rs t at ≡ o → savepoint rs t at ≡ None
    by None is = ap (option_and_then (by_stack rs t)) is
    by (Some stack) is =
        let known = facts.going.known at stack is in
        ap (option_and_then (by_stack rs t)) is
        ∙ ap (λ b. cond b (Some (length stack)) None) (not_true _ (λ begins. never (found known begins)))
      where
        not_true : (b : Bool) → (b ≡ true → ⊥) → b ≡ false
        not_true true never = absurd (never refl)
        not_true false never = refl

        found : IsKnown rs t at stack → begins_with (pending rs t) stack ≡ true → IsFound rs t count at
        found known begins = of known.kind
          where
            none : known.splits.gone ≡ []
            none = gone_from_start (pending rs t) stack at known.splits known.below begins

            all : stack ≡ known.splits.common
            all = known.splits.stack_is ∙ ap (λ xs. known.splits.common ++ xs) none ∙ append-nil known.splits.common

            long : length stack ≡ count
            long = ap length all ∙ sym (count_of rs t at count stack facts.going known counts)

            of : IsKind rs t at stack → IsFound rs t count at
            of (inl first) = inl (sym first.0)
            of (inr (inl last)) = inr (inl (omega (arith, long, ap length last.is, length_push last.front last.p), here))
              where
                place : count - 1 ≡ length last.front
                place = omega (arith, long, ap length last.is, length_push last.front last.p)

                now : pending rs t ≡ last.front ++ (last.p ∷ known.splits.new)
                now = known.splits.now_is ∙ ap (λ xs. xs ++ known.splits.new) (sym all ∙ last.is)
                    ∙ append_assoc last.front (last.p ∷ []) known.splits.new

                first : length last.front - length last.front ≡ 0
                first = omega arith

                there : get_or (pending rs t) (count - 1) last.p ≡ last.p
                there = ap₂ (λ xs n. get_or xs n last.p) now place
                    ∙ get_or-append_right last.front (last.p ∷ known.splits.new) (length last.front) (length last.front)
                    last.p refl (omega arith)
                    ∙ ap (λ n. get_or (last.p ∷ known.splits.new) n last.p) first

                here : IsSomeAnd (slice_get (pending rs t) (count - 1)) (λ p. p.lsn ≡ at)
                here = subst (λ o. IsSomeAnd o (λ (p : PendingChange). p.lsn ≡ at))
                    (sym (slice_get-get_or (pending rs t) (count - 1) last.p
                    (omega (arith, place, ap length now, length-append last.front (last.p ∷ known.splits.new))) ∙ ap Some there))
                    last.at_is
            of (inr (inr there)) =
                inr (inr (subst (λ (n : ℕ). Contains (returns_of rs) (return_at at t n)) long there))

-- what the code says of an LSN
pub found_savepoint : (log : Log) (t at count : ℕ) → IsLog log → IsLinked log.records → is_open log.records t ≡ true
    → is_rolling log.records t ≡ false → IsCountUpTo (pending log.records t) at count
    → IsFound log.records t count at → savepoint log.records t at ≡ Some count
found_savepoint log t at count valid linked still active counts found =
    found_is log.records t at count (facts_of_log log t valid linked still active) counts found

pub no_savepoint : (log : Log) (t at count : ℕ) → IsLog log → IsLinked log.records → is_open log.records t ≡ true
    → is_rolling log.records t ≡ false → IsCountUpTo (pending log.records t) at count
    → (IsFound log.records t count at → ⊥) → savepoint log.records t at ≡ None
no_savepoint log t at count valid linked still active counts never =
    is_found log.records t at count (facts_of_log log t valid linked still active) counts never
