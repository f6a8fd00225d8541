-- What may stand at the end of a valid log: what is pending there, and the numbers of its open transactions.
use Rattle.std.proofs.Common.{◌≡◌, refl, ℕ, ◌+◌, ◌-◌, ◌<◌, ◌≤◌, true, eqb, List, [], ◌∷◌, ◌++◌, length, get_or, map}
use Rattle.std.proofs.Common.{subst, arith, below_more}
use Rattle.std.specs.Prelude.{Option, Some, None, IfSome}
use Rattle.std.specs.List.{All}
use Rattle.std.proofs.Math.Nat.{mul-mod_right}
use Rattle.std.proofs.lemmas.List.{get_or_append_left, get_or_push, length-map, length_push}
use Rattle.std.proofs.lemmas.List.Elements.{All-filter, All-get_or, All-head, All-map, All-nil, All-push, All-tail}
use Rattle.std.proofs.lemmas.List.Elements.{All-take, All-weaker}
use Rattle.std.proofs.lemmas.Option.{get_or_from_slice_get, slice_get_within}
use Rattle.page_core.specs.declared.change.Change.{Change}
use Rattle.page_core.specs.declared.change.Change.TheVariants.{Set, Add}
use Rattle.page_core.specs.Change.{undo_of}
use Rattle.log_records.specs.declared.limits.TheConstants.{MAX_RECORDS}
use Rattle.log_records.specs.declared.record.Record.{Record}
use Rattle.log_records.specs.declared.record.Record.TheVariants.{Begin, Update, Comp, Commit, Abort, End, BeginChkpt}
use Rattle.log_records.specs.declared.record.Record.TheVariants.{ChkptPages, ChkptTxns, EndChkpt, Extend}
use Rattle.log_records.specs.PageCount.{GivesMore}
use Rattle.log_records.specs.Log.{IsLog, IsWithin, Log, StandsAt, lsn_of, page_count, page_count_at, with_next}
use Rattle.log_records.specs.Record.{HasNoBefore, IsBefore, IsChange, IsLsn, IsPageChange, IsRecord, IsTxn, own_lsn}
use Rattle.log_records.proofs.Public.{valid_change}
use Rattle.log_records.proofs.Public.{page_count_at-all, page_count_at-append, stands_in}
use Rattle.log_rules.specs.declared.pending_change.PendingChange.{PendingChange}
use Rattle.log_rules.specs.Linked.{IsLinked}
use Rattle.log_rules.specs.Transactions.{begun, is_open, last_lsn, last_of, last_or, pending, pending_from}
use Rattle.log_rules.specs.Transactions.{records_of, txn_of, with_pending}
use Rattle.log_rules.proofs.Begun.{begun_bounds, open_has_begun, some_from_begin}

-- ---- what holds of each Update's change

-- the change that is pending after a record
abbrev pub noted : Record → Option PendingChange
noted (Update lsn txn prev page slot change) =
    Some (record { lsn = lsn; prev = prev; page = page; slot = slot; change = change })
noted (Begin lsn txn) = None
noted (Comp lsn txn prev undo_next page slot change) = None
noted (Commit lsn txn prev) = None
noted (Abort lsn txn prev) = None
noted (End lsn txn prev) = None
noted (BeginChkpt lsn) = None
noted (ChkptPages lsn begin entries) = None
noted (ChkptTxns lsn begin txn state last undo) = None
noted (EndChkpt lsn begin redo) = None
noted (Extend lsn pages) = None

All-with_pending : (Q : PendingChange → Type 0) (changes : List PendingChange) (r : Record) → All Q changes
    → IfSome (noted r) Q → All Q (with_pending changes r)
All-with_pending Q changes (Update lsn txn prev page slot change) all new = All-push Q changes _ all new
All-with_pending Q changes (Comp lsn txn prev undo_next page slot change) all new = All-take Q _ changes all
All-with_pending Q changes (Begin lsn txn) all new = all
All-with_pending Q changes (Commit lsn txn prev) all new = all
All-with_pending Q changes (Abort lsn txn prev) all new = all
All-with_pending Q changes (End lsn txn prev) all new = all
All-with_pending Q changes (BeginChkpt lsn) all new = all
All-with_pending Q changes (ChkptPages lsn begin entries) all new = all
All-with_pending Q changes (ChkptTxns lsn begin txn state last undo) all new = all
All-with_pending Q changes (EndChkpt lsn begin redo) all new = all
All-with_pending Q changes (Extend lsn pages) all new = all

All-pending_from : (Q : PendingChange → Type 0) (changes : List PendingChange) (rs : List Record) → All Q changes
    → All (λ r. IfSome (noted r) Q) rs → All Q (pending_from changes rs)
All-pending_from Q changes [] all each = all
All-pending_from Q changes (r ∷ rs) all each =
    let P : Record → Type 0 = λ r. IfSome (noted r) Q in
    All-pending_from Q (with_pending changes r) rs (All-with_pending Q changes r all (All-head P r rs each))
    (All-tail P r rs each)

pub All-pending : (Q : PendingChange → Type 0) (rs : List Record) (t : ℕ) → All (λ r. IfSome (noted r) Q) rs
    → All Q (pending rs t)
All-pending Q rs t each =
    All-pending_from Q [] (records_of rs t) (All-nil Q)
    (All-filter (λ r. eqb (txn_of r) t) (λ r. IfSome (noted r) Q) rs each)

pub All-last_of : {X : Type 0} (Q : X → Type 0) (xs : List X) (x : X) → All Q xs → last_of xs ≡ Some x → Q x
All-last_of Q xs x all last =
    subst Q (get_or_from_slice_get xs (length xs - 1) x x last)
    (All-get_or Q xs (length xs - 1) x (slice_get_within xs (length xs - 1) x last) all)

-- ---- a record that stands in a valid log

pub record StandsBefore (pages at : ℕ) (r : Record) : Type 0 where
  pub valid : IsRecord r
  pub within : IsWithin pages r
  pub earlier : own_lsn r < at

pub all_stand : (log : Log) → IsLog log
    → All (StandsBefore (page_count log) (lsn_of (length log.records))) log.records
all_stand log valid = λ i d lt.
    let stands = stands_in log valid i d lt in
    let lsn = stands.lsn in
    record { valid = stands.valid; within = stands.within; earlier = omega arith }

pub is_before : (pages at : ℕ) (r : Record) → StandsBefore pages at r → IsBefore at (own_lsn r)
is_before pages at r stands = record { place = (valid_change r stands.valid).0; earlier = stands.earlier }

-- ---- a change that is pending in a valid log

pub record IsPending (pages at : ℕ) (p : PendingChange) : Type 0 where
  pub lsn : IsBefore at p.lsn
  pub prev : IsBefore at p.prev
  pub fits : IsPageChange (record { page = p.page; slot = p.slot; change = p.change })
  pub within : p.page < pages

is_noted : (pages at : ℕ) (r : Record) → StandsBefore pages at r → IfSome (noted r) (IsPending pages at)
is_noted pages at (Update lsn txn prev page slot change) stands =
    let valid = stands.valid in
    let before = valid.2 in
    let sooner = before.earlier in
    let here = stands.earlier in
    record {
      lsn = is_before pages at (Update lsn txn prev page slot change) stands;
      prev = record { place = before.place; earlier = omega arith };
      fits = valid.3;
      within = stands.within;
    }
is_noted pages at (Begin lsn txn) stands = tt
is_noted pages at (Comp lsn txn prev undo_next page slot change) stands = tt
is_noted pages at (Commit lsn txn prev) stands = tt
is_noted pages at (Abort lsn txn prev) stands = tt
is_noted pages at (End lsn txn prev) stands = tt
is_noted pages at (BeginChkpt lsn) stands = tt
is_noted pages at (ChkptPages lsn begin entries) stands = tt
is_noted pages at (ChkptTxns lsn begin txn state last undo) stands = tt
is_noted pages at (EndChkpt lsn begin redo) stands = tt
is_noted pages at (Extend lsn count) stands = tt

pub all_pending : (log : Log) (t : ℕ) → IsLog log
    → All (IsPending (page_count log) (lsn_of (length log.records))) (pending log.records t)
all_pending log t valid =
    let at = lsn_of (length log.records) in
    All-pending (IsPending (page_count log) at) log.records t
    (All-weaker (StandsBefore (page_count log) at) (λ r. IfSome (noted r) (IsPending (page_count log) at)) (is_noted (page_count log) at)
    log.records (all_stand log valid))

pub last_pending : (log : Log) (t : ℕ) (p : PendingChange) → IsLog log → last_of (pending log.records t) ≡ Some p
    → IsPending (page_count log) (lsn_of (length log.records)) p
last_pending log t p valid last =
    let at = lsn_of (length log.records) in
    All-last_of (IsPending (page_count log) at) (pending log.records t) p (all_pending log t valid) last

-- ---- transactions that began

pub length_begun : (rs : List Record) → length (begun rs) ≤ length rs
length_begun [] = omega arith
length_begun (Begin lsn txn ∷ rs) = omega (arith, length_begun rs)
length_begun (r ∷ rs) = omega (arith, length_begun rs)

-- ---- an open transaction

last_or-has : {X : Type 0} (P : X → Type 0) (d : X) (xs : List X) → P d → All P xs → P (last_or d xs)
last_or-has P d [] here all = here
last_or-has P d (x ∷ xs) here all = last_or-has P x xs (All-head P x xs all) (All-tail P x xs all)

last_or-of_some : {X : Type 0} (P : X → Type 0) (d : X) (xs : List X) → 0 < length xs → All P xs → P (last_or d xs)
last_or-of_some P d [] some all = absurd (omega arith)
last_or-of_some P d (x ∷ xs) some all = last_or-has P x xs (All-head P x xs all) (All-tail P x xs all)

-- its number is one that a transaction may have
pub open_is_txn : (rs : List Record) (t : ℕ) → IsLinked rs → length rs ≤ MAX_RECORDS → is_open rs t ≡ true → IsTxn t
open_is_txn rs t linked few still_open =
    let within = begun_bounds rs linked t (open_has_begun rs t still_open) in
    record { first = within.0; fits = omega (arith, within.1, length_begun rs) }

-- its last record stands before the log's end
pub last_lsn_is_before : (log : Log) (t : ℕ) → IsLog log → is_open log.records t ≡ true
    → IsBefore (lsn_of (length log.records)) (last_lsn log.records t)
last_lsn_is_before log t valid still_open =
    let at = lsn_of (length log.records) in
    let own = records_of log.records t in
    let some = some_from_begin log.records t (open_has_begun log.records t still_open) in
    last_or-of_some (IsBefore at) 0 (map own_lsn own) (omega (arith, length-map own own_lsn))
    (All-map (IsBefore at) own_lsn own
    (All-filter (λ r. eqb (txn_of r) t) (λ r. IsBefore at (own_lsn r)) log.records
    (All-weaker (StandsBefore (page_count log) at) (λ r. IsBefore at (own_lsn r)) (is_before (page_count log) at) log.records
    (all_stand log valid))))

-- ---- the log's end

pub lsn_is_lsn : (n : ℕ) → n ≤ 1048576 → IsLsn (lsn_of n)
lsn_is_lsn n few = record {
  aligned = mul-mod_right 64 (n + 1);
  past_header = omega arith;
  fits = omega arith;
}

-- ---- one record more

pub valid_next : (log : Log) (r : Record) → IsLog log → length log.records < 1048576
    → StandsAt (page_count log) (lsn_of (length log.records)) r → GivesMore (page_count log) r
    → IsLog (with_next log (r ∷ []))
valid_next log r valid few stands more =
    let all : page_count_at log (length log.records) ≡ page_count log =
    page_count_at-all log (length log.records) (omega arith) in
    record {
      pages = valid.pages;
      count = omega (arith, length_push log.records r);
      records = λ i d lt.
          below_more
          (λ n. StandsAt (page_count_at (with_next log (r ∷ [])) n) (lsn_of n) (get_or (log.records ++ r ∷ []) n d))
          (length log.records)
          (λ n below. rw (
            get_or_append_left log.records (r ∷ []) d n below,
            page_count_at-append log (r ∷ []) n (omega (arith, below)),
          ) (valid.records n d below))
          (rw (
            get_or_push log.records r d (length log.records) refl,
            page_count_at-append log (r ∷ []) (length log.records) (omega arith),
            all,
          ) stands) i
          (omega (arith, length_push log.records r));
      grows = λ i d lt.
          below_more
          (λ n. GivesMore (page_count_at (with_next log (r ∷ [])) n) (get_or (log.records ++ r ∷ []) n d))
          (length log.records)
          (λ n below. rw (
            get_or_append_left log.records (r ∷ []) d n below,
            page_count_at-append log (r ∷ []) n (omega (arith, below)),
          ) (valid.grows n d below))
          (rw (
            get_or_push log.records r d (length log.records) refl,
            page_count_at-append log (r ∷ []) (length log.records) (omega arith),
            all,
          ) more) i
          (omega (arith, length_push log.records r));
    }

-- ---- what undoes a change

pub undo_fits : (change : Change) → IsChange change → IsChange (undo_of change)
undo_fits (Set before after) fits = (omega arith, fits.0)
undo_fits (Add amount) fits = omega arith

pub undo_has_no_before : (change : Change) → HasNoBefore (undo_of change)
undo_has_no_before (Set before after) = refl
undo_has_no_before (Add amount) = tt
