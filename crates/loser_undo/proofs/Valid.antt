-- The log after undo: its changes are valid, it fits where records plus owed ones do, and it begins with the log.
use Rattle.std.proofs.Common.{◌≡◌, ℕ, ◌+◌, ◌<◌, ◌≤◌, Bool, true, false, cond, List, [], ◌∷◌, ◌++◌, length, map, take}
use Rattle.std.proofs.Common.{sym, refl, ap, ◌∙◌, arith, append_assoc, append-nil}
use Rattle.std.specs.Prelude.{Some, IfSome}
use Rattle.std.specs.List.{All, fold, range_with_len}
use Rattle.std.proofs.lemmas.List.{length-take, length_push, take_at}
use Rattle.std.proofs.lemmas.List.Elements.{All-push, All-weaker}
use Rattle.page_core.specs.declared.page.TheConstants.{SLOTS}
use Rattle.log_records.specs.declared.limits.TheConstants.{MAX_RECORDS}
use Rattle.log_records.specs.declared.record.Record.{Record}
use Rattle.log_records.specs.declared.record.Record.TheVariants.{Update}
use Rattle.log_records.specs.Image.{image}
use Rattle.log_records.specs.Log.{IsLog, Log, StandsAt, lsn_of}
use Rattle.log_records.specs.Record.{IsBefore, IsChange, IsLsn, IsTxn}
use Rattle.log_rules.specs.declared.pending_change.PendingChange.{PendingChange}
use Rattle.log_rules.specs.Committed.{committed}
use Rattle.log_rules.specs.Linked.{IsLinked, MayFollow, number_in}
use Rattle.log_rules.specs.Transactions.{is_open, last_lsn, last_of, open_in, owed, pending}
use Rattle.log_rules.proofs.Public.{All-last_of, All-pending, last_lsn_is_before, last_pending, lsn_is_lsn, noted}
use Rattle.log_rules.proofs.Public.{open_is_txn, undo_fits, undo_has_no_before, valid_next}
use Rattle.log_rules.proofs.Public.{HasChange}
use Rattle.log_rules.proofs.Public.{claimed, claimed_push}
use Rattle.log_rules.proofs.Public.{changes_of_log, number_is_committed, slots_are_committed}
use Rattle.loser_undo.specs.Undo.{LostChange, after_undo, comp_of, end_of, is_undone, lost_changes, spent, with_comp}
use Rattle.loser_undo.specs.Undo.{with_end, taken_back}
use Rattle.loser_undo.proofs.Committed.{committed_stays}
use Rattle.loser_undo.proofs.Goes.{Finished, all_undone}
use Rattle.log_records.specs.Log.{page_count}
use Rattle.log_records.specs.PageCount.{GivesMore, count_behind}

-- ---- all changes stay valid

change_noted : (r : Record) → HasChange r → IfSome (noted r) (λ p. IsChange p.change)
change_noted (Update lsn txn prev page slot change) has = has
change_noted r has = tt

changes_with_end : (rs : List Record) (t : ℕ) → IsLinked rs → MayFollow rs (end_of rs t) → All HasChange rs
    → All HasChange (with_end rs t)
changes_with_end rs t linked may has = All-push HasChange rs (end_of rs t) has tt

changes_with_comp : (rs : List Record) (l : LostChange) → IsLinked rs → MayFollow rs (comp_of rs l)
    → last_of (pending rs l.txn) ≡ Some l.change → All HasChange rs → All HasChange (with_comp rs l)
changes_with_comp rs l linked may last has =
    let Q : PendingChange → Type 0 = λ p. IsChange p.change in
    let each = All-weaker HasChange (λ r. IfSome (noted r) Q) change_noted rs has in
    let here = All-last_of Q (pending rs l.txn) l.change (All-pending Q rs l.txn each) last in
    All-push HasChange rs (comp_of rs l) has (undo_fits l.change.change here)

undone_changes : (log : Log) → IsLog log → IsLinked log.records
    → Finished (All HasChange) (after_undo log.records)
undone_changes log valid linked =
    all_undone (All HasChange) changes_with_end changes_with_comp log valid linked (changes_of_log log valid)

-- ---- the laws

pub undo_is_linked : (log : Log) → IsLog log → IsLinked log.records → IsLinked (after_undo log.records)
undo_is_linked log valid linked = (undone_changes log valid linked).linked

pub undo_closes : (log : Log) → IsLog log → IsLinked log.records → open_in (after_undo log.records) ≡ []
undo_closes log valid linked = (undone_changes log valid linked).closed

pub undone_number : (log : Log) (page slot : ℕ) → IsLog log → IsLinked log.records → slot < SLOTS
    → number_in (after_undo log.records) page slot ≡ committed log.records page slot
undone_number log page slot valid linked within =
    let u = undone_changes log valid linked in
    let closed = undo_closes log valid linked in
    number_is_committed (after_undo log.records) page slot within u.linked u.has closed
    ∙ ap (λ (values : ℕ → ℕ → ℕ). values page slot) (committed_stays log.records)

pub undone_page : (log : Log) (page : ℕ) → IsLog log → IsLinked log.records
    → (image (after_undo log.records) page).slots ≡ map (committed log.records page) (range_with_len 0 SLOTS)
undone_page log page valid linked =
    let u = undone_changes log valid linked in
    let closed = undo_closes log valid linked in
    slots_are_committed (after_undo log.records) page u.linked u.has closed
    ∙ ap (λ (values : ℕ → ℕ → ℕ). map (values page) (range_with_len 0 SLOTS)) (committed_stays log.records)

-- ---- room

-- the parts of a record of an open transaction at the log's end
abbrev pub OpenParts : List Record → ℕ → Type 0
OpenParts rs t = IsLsn (lsn_of (length rs)) × IsTxn t × IsBefore (lsn_of (length rs)) (last_lsn rs t)

pub open_parts : (log : Log) (t : ℕ) → IsLog log → IsLinked log.records → is_open log.records t ≡ true
    → OpenParts log.records t
open_parts log t valid linked still = (
  lsn_is_lsn (length log.records) valid.count,
  open_is_txn log.records t linked valid.count still,
  last_lsn_is_before log t valid still,
)

abbrev log_of : ℕ → List Record → Log
log_of pages rs = record { pages = pages; records = rs }

-- it is valid, and has room for what it owes
record IsLogWithRoom (pages : ℕ) (rs : List Record) : Type 0 where
  valid : IsLog (log_of pages rs)
  room : claimed rs ≤ MAX_RECORDS

grows : (pages : ℕ) (rs : List Record) (r : Record) → IsLogWithRoom pages rs
    → claimed (rs ++ r ∷ []) ≤ claimed rs → StandsAt (count_behind pages rs) (lsn_of (length rs)) r
    → GivesMore (count_behind pages rs) r → IsLogWithRoom pages (rs ++ r ∷ [])
grows pages rs r has no_more stands more =
    let room = has.room in
    record {
      valid = valid_next (log_of pages rs) r has.valid (omega (arith, room, no_more, length_push rs r)) stands more;
      room = omega (arith, room, no_more);
    }

pub end_stands : (log : Log) (t : ℕ) → IsLog log → IsLinked log.records → is_open log.records t ≡ true
    → StandsAt (page_count log) (lsn_of (length log.records)) (end_of log.records t)
end_stands log t valid linked still =
    let parts = open_parts log t valid linked still in
    record { lsn = refl; valid = (parts.0, parts.1, parts.2); within = tt }

pub comp_stands : (log : Log) (l : LostChange) → IsLog log → IsLinked log.records → is_open log.records l.txn ≡ true
    → last_of (pending log.records l.txn) ≡ Some l.change
    → StandsAt (page_count log) (lsn_of (length log.records)) (comp_of log.records l)
comp_stands log l valid linked still last =
    let parts = open_parts log l.txn valid linked still in
    let change = last_pending log l.txn l.change valid last in
    let fits = change.fits in
    record {
      lsn = refl;
      valid = (
        parts.0,
        parts.1,
        parts.2,
        record { page = fits.page; slot = fits.slot; change = undo_fits l.change.change fits.change },
        change.prev,
        undo_has_no_before l.change.change,
      );
      within = change.within;
    }

room_with_end : (pages : ℕ) (rs : List Record) (t : ℕ) → IsLinked rs → MayFollow rs (end_of rs t) → IsLogWithRoom pages rs
    → IsLogWithRoom pages (with_end rs t)
room_with_end pages rs t linked may has =
    grows pages rs (end_of rs t) has (omega (arith, claimed_push rs (end_of rs t) linked may))
    (end_stands (log_of pages rs) t has.valid linked may.0.still_open) tt

room_with_comp : (pages : ℕ) (rs : List Record) (l : LostChange) → IsLinked rs → MayFollow rs (comp_of rs l)
    → last_of (pending rs l.txn) ≡ Some l.change → IsLogWithRoom pages rs → IsLogWithRoom pages (with_comp rs l)
room_with_comp pages rs l linked may last has =
    grows pages rs (comp_of rs l) has (omega (arith, claimed_push rs (comp_of rs l) linked may))
    (comp_stands (log_of pages rs) l has.valid linked may.0.still_open last) tt

pub undone_fits : (log : Log) → IsLog log → IsLinked log.records → length log.records + owed log.records ≤ MAX_RECORDS
    → IsLog (record log { records = after_undo log.records })
undone_fits log valid linked room =
    (all_undone (IsLogWithRoom log.pages) (room_with_end log.pages) (room_with_comp log.pages) log valid linked
    (record { valid = valid; room = room })).has.valid

-- ---- how many records undo appends

abbrev Bounded : ℕ → List Record → Type 0
Bounded most rs = claimed rs ≤ most

pub undone_length : (log : Log) → IsLog log → IsLinked log.records
    → length (after_undo log.records) ≤ length log.records + owed log.records
undone_length log valid linked =
    let most = claimed log.records in
    let within = (all_undone (Bounded most)
    (λ rs t linked may has. omega (arith, has, claimed_push rs (end_of rs t) linked may))
    (λ rs l linked may last has. omega (arith, has, claimed_push rs (comp_of rs l) linked may))
    log valid linked (omega arith)).has in
    omega (arith, within)

-- ---- the log comes first

pub record Begins (rs whole : List Record) : Type 0 where
  pub behind : List Record
  pub is : whole ≡ rs ++ behind

pub begins_push : (rs whole : List Record) (r : Record) → Begins rs whole → Begins rs (whole ++ r ∷ [])
begins_push rs whole r begins = record {
  behind = begins.behind ++ r ∷ [];
  is = ap (λ xs. xs ++ r ∷ []) begins.is ∙ append_assoc rs begins.behind (r ∷ []);
}

pub begins_without : (rs whole : List Record) (l : LostChange) → Begins rs whole → Begins rs (taken_back whole l)
unfolding taken_back
begins_without rs whole l begins = by (is_undone (with_comp whole l) l.txn)
  where
    after : Begins rs (with_comp whole l)
    after = begins_push rs whole (comp_of whole l) begins

    by : (b : Bool) → Begins rs (cond b (with_end (with_comp whole l) l.txn) (with_comp whole l))
    by true = begins_push rs (with_comp whole l) (end_of (with_comp whole l) l.txn) after
    by false = after

pub begins_fold : {X : Type 0} (rs : List Record) (f : List Record → X → List Record)
    → ((whole : List Record) (x : X) → Begins rs whole → Begins rs (f whole x)) → (whole : List Record) (xs : List X)
    → Begins rs whole → Begins rs (fold f whole xs)
begins_fold rs f more whole [] begins = begins
begins_fold rs f more whole (x ∷ xs) begins = begins_fold rs f more (f whole x) xs (more whole x begins)

pub log_comes_first : (rs : List Record) → take (length rs) (after_undo rs) ≡ rs
unfolding after_undo
log_comes_first rs =
    let none : Begins rs rs = record { behind = []; is = sym (append-nil rs) } in
    let ends = begins_fold rs with_end (λ whole t begins. begins_push rs whole (end_of whole t) begins) rs (spent rs)
    none in
    let all = begins_fold rs taken_back (begins_without rs) (fold with_end rs (spent rs)) (lost_changes rs) ends in
    ap (take (length rs)) all.is ∙ take_at rs all.behind (length rs) refl

pub grows_by_undo : (rs : List Record) → length rs ≤ length (after_undo rs)
grows_by_undo rs = omega (arith, ap length (log_comes_first rs), length-take (length rs) (after_undo rs))
