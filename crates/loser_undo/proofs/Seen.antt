-- Whose turn it is, by looking at one loser after another.
use Rattle.std.proofs.Common.{◌≡◌, ◌∙◌, ℕ, ◌+◌, ◌<◌, ◌≤◌, List, [], ◌∷◌, length, ap, arith, get_or, inl, inr}
use Rattle.std.proofs.Common.{refl, slice_get, subst, sym}
use Rattle.std.specs.Prelude.{Option, Some, None, IsSome, IsSomeAnd, MatchOption}
use Rattle.std.specs.Option.{option_and_then, option_map}
use Rattle.std.proofs.lemmas.Bool.{cases_lt}
use Rattle.std.proofs.lemmas.Option.{same_Some, slice_get-get_or, slice_get_within}
use Rattle.log_rules.specs.declared.pending_change.PendingChange.{PendingChange}
use Rattle.log_rules.specs.Table.{TxnEntry}
use Rattle.log_rules.specs.Transactions.{last_of}
use Rattle.txn_table.proofs.Public.{match_none, match_some}
use Rattle.loser_undo.specs.LastChanges.{last_change_at}
use Rattle.loser_undo.specs.UndoRecords.{AreBusyBefore, IsLastLost, IsNext}

-- the last pending change of the one at this place has this LSN
pub record HasLast (losers : List TxnEntry) (lsn place : ℕ) : Type 0 where
  pub entry : TxnEntry
  pub change : PendingChange
  pub there : slice_get losers place ≡ Some entry
  pub last : last_of entry.pending ≡ Some change
  pub at : change.lsn ≡ lsn

-- each of the first ones has something pending, and of their last changes the greatest LSN is this
pub record Seen (losers : List TxnEntry) (n : ℕ) (best : Option ℕ) (greatest : ℕ) : Type 0 where
  pub most : (i : ℕ) (e : TxnEntry) → i < n → slice_get losers i ≡ Some e
      → IsSomeAnd (last_of e.pending) (λ q. q.lsn ≤ greatest)
  pub at : MatchOption best ((n ≡ 0) × (greatest ≡ 0)) (HasLast losers greatest)

pub none_seen : (losers : List TxnEntry) → Seen losers 0 None 0
none_seen losers = record { most = λ i e lt is. absurd (omega (arith, lt)); at = (refl, refl) }

is_some_from : (o : Option PendingChange) (P : PendingChange → Type 0) → IsSomeAnd o P → IsSome o
is_some_from None P some = absurd some
is_some_from (Some p) P some = refl

at_most : (o : Option PendingChange) (low high : ℕ) → low ≤ high → IsSomeAnd o (λ q. q.lsn ≤ low)
    → IsSomeAnd o (λ q. q.lsn ≤ high)
at_most None low high le some = some
at_most (Some p) low high le some = omega (arith, le, some)

just : (o : Option PendingChange) (p : PendingChange) (high : ℕ) → o ≡ Some p → p.lsn ≤ high
    → IsSomeAnd o (λ q. q.lsn ≤ high)
just None p high is le = absurd (cc)
just (Some q) p high is le = subst (λ (x : PendingChange). x.lsn ≤ high) (sym (same_Some q p is)) le

-- what stands behind the LSN of the last pending change of the one at a place
last_behind : (losers : List TxnEntry) (n lsn : ℕ) → Some lsn ≡ last_change_at losers n → HasLast losers lsn n
last_behind losers n lsn found = by (slice_get losers n) refl found
  where
    of : (e : TxnEntry) → slice_get losers n ≡ Some e → (o : Option PendingChange) → last_of e.pending ≡ o
        → Some lsn ≡ option_map (λ (p : PendingChange). p.lsn) o → HasLast losers lsn n
    of e there None last some = absurd (cc)
    of e there (Some p) last some =
        record { entry = e; change = p; there = there; last = last; at = sym (same_Some lsn p.lsn some) }

    by : (o : Option TxnEntry) → slice_get losers n ≡ o
        → Some lsn ≡ option_map (λ (p : PendingChange). p.lsn) (option_and_then (λ e. last_of e.pending) o)
        → HasLast losers lsn n
    by None is some = absurd (cc)
    by (Some e) is some = of e is (last_of e.pending) refl some

module _ (losers : List TxnEntry) (n : ℕ) (best : Option ℕ) (greatest : ℕ) (seen : Seen losers n best greatest) where
  -- the first that has nothing pending
  pub idle_here : n < length losers → None ≡ last_change_at losers n → IsNext losers n
  idle_here within found = by (slice_get losers n) refl found
    where
      idle : (o : Option PendingChange) → None ≡ option_map (λ (p : PendingChange). p.lsn) o → o ≡ None
      idle None none = refl
      idle (Some p) none = absurd (cc)

      by : (o : Option TxnEntry) → slice_get losers n ≡ o
          → None ≡ option_map (λ (p : PendingChange). p.lsn) (option_and_then (λ e. last_of e.pending) o)
          → IsNext losers n
      by None is none = absurd (missing losers n within is)
        where
          missing : (es : List TxnEntry) (i : ℕ) → i < length es → slice_get es i ≡ None → ⊥
          missing [] i lt at = omega (arith, lt)
          missing (e ∷ es) i lt at =
              let no : None ≡ Some (get_or (e ∷ es) i e) = sym at ∙ slice_get-get_or (e ∷ es) i e lt in
              absurd (cc)
      by (Some e) is none = record {
        entry = e;
        there = is;
        turn = match_none (last_of e.pending) (AreBusyBefore losers n) (IsLastLost losers)
            (idle (last_of e.pending) none)
            (λ i x lt at. is_some_from (last_of x.pending) (λ q. q.lsn ≤ greatest) (seen.most i x lt at));
      }

  more : (lsn high : ℕ) → HasLast losers lsn n → lsn ≤ high → greatest ≤ high → (i : ℕ) (e : TxnEntry) → i < n + 1
      → slice_get losers i ≡ Some e → IsSomeAnd (last_of e.pending) (λ q. q.lsn ≤ high)
  more lsn high it le most i e lt at = elim (cases_lt i n) [
    | inl below ↦ at_most (last_of e.pending) greatest high most (seen.most i e below at)
    | inr above ↦
        let here : i ≡ n = omega (arith, lt, above) in
        let same : e ≡ it.entry = same_Some e it.entry (sym at ∙ ap (slice_get losers) here ∙ it.there) in
        just (last_of e.pending) it.change high
        (ap (λ (x : TxnEntry). last_of x.pending) same ∙ it.last) (omega (arith, it.at, le))
  ]

  -- one more, which has the last change so far
  pub last_here : (lsn : ℕ) → Some lsn ≡ last_change_at losers n → greatest ≤ lsn → Seen losers (n + 1) (Some n) lsn
  last_here lsn found most =
      let it = last_behind losers n lsn found in
      record { most = more lsn lsn it (omega arith) most; at = it }

  -- one more, which has not
  pub still_last : (lsn : ℕ) → Some lsn ≡ last_change_at losers n → lsn < greatest → Seen losers (n + 1) best greatest
  still_last lsn found less =
      record {
        most = more lsn greatest (last_behind losers n lsn found) (omega (arith, less)) (omega arith);
        at = by best seen.at;
      }
    where
      by : (b : Option ℕ) → MatchOption b ((n ≡ 0) × (greatest ≡ 0)) (HasLast losers greatest)
          → MatchOption b ((n + 1 ≡ 0) × (greatest ≡ 0)) (HasLast losers greatest)
      by None at = absurd (omega (arith, less, at.1))
      by (Some b) at = at

  pub all_seen : length losers ≤ n → MatchOption best (losers ≡ []) (IsNext losers)
  all_seen long = by best seen.at
    where
      nobody : (es : List TxnEntry) → length es ≤ 0 → es ≡ []
      nobody [] le = refl
      nobody (e ∷ es) le = absurd (omega (arith, le))

      by : (b : Option ℕ) → MatchOption b ((n ≡ 0) × (greatest ≡ 0)) (HasLast losers greatest)
          → MatchOption b (losers ≡ []) (IsNext losers)
      by None at = nobody losers (omega (arith, long, at.0))
      by (Some b) at = record {
        entry = at.entry;
        there = at.there;
        turn = match_some (last_of at.entry.pending) at.change (AreBusyBefore losers b) (IsLastLost losers) at.last
            (λ i x is. at_most (last_of x.pending) greatest at.change.lsn (omega (arith, at.at))
            (seen.most i x (omega (arith, long, slice_get_within losers i x is)) is));
      }
