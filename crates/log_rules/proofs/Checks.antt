-- A table of the open transactions says which record may come next.
use Rattle.std.proofs.Common.{◌≡◌, ℕ, ◌+◌, ◌<◌, Bool, true, false, cond, ◌&&◌, not, eqb, List, [], map, sym, refl, ap}
use Rattle.std.proofs.Common.{subst, ◌∙◌}
use Rattle.std.specs.Prelude.{Some, None, IsSomeAnd}
use Rattle.std.specs.List.{filter, list_any}
use Rattle.std.specs.Option.{option_map}
use Rattle.std.proofs.lemmas.List.{length-map, map-id}
use Rattle.std.proofs.lemmas.List.Folds.{fold-map}
use Rattle.std.proofs.lemmas.Simd.{map-map}
use Rattle.page_core.specs.declared.change.Change.{Change}
use Rattle.page_core.specs.declared.change.ChangeKind.{ChangeKind}
use Rattle.page_core.specs.Change.{kind_of}
use Rattle.log_records.specs.declared.limits.TheConstants.{MAX_OPEN}
use Rattle.log_records.specs.declared.record.Record.{Record}
use Rattle.log_records.specs.declared.record.Record.TheVariants.{Begin, Update, Comp, Commit, Abort, End, BeginChkpt}
use Rattle.log_records.specs.declared.record.Record.TheVariants.{ChkptPages, ChkptTxns, EndChkpt, Extend}
use Rattle.log_rules.specs.Transactions.{begun, holder, is_open, keeps_out, last_of, open_in, owed}
use Rattle.log_records.specs.Least.{least}
use Rattle.log_rules.specs.Linked.{Compensates, IsActive, MayFollow}
use Rattle.log_rules.specs.Table.{TxnEntry, IsActiveEntry, IsChained, IsEntryNow, MayNote, entry_in, entry_of, holder_in}
use Rattle.log_rules.specs.Table.{owed_by_entry, owed_in, table_of}
use Rattle.log_rules.specs.Checked.{GoesWithCheckpoint, NamesNumber}
use Rattle.log_rules.proofs.Filters.{filter-map, find-filter, find-map}
use Rattle.log_rules.proofs.Pushes.{has_begun, has_ended}

-- ---- what a log's table says is what the log says

pub entry_in-table_of : (rs : List Record) (t : ℕ)
    → entry_in (table_of rs) t ≡ cond (is_open rs t) (Some (entry_of rs t)) None
entry_in-table_of rs t =
    find-map (entry_of rs) (λ e. eqb e.txn t) (open_in rs)
    ∙ ap (option_map (entry_of rs)) (find-filter (is_open rs) t (begun rs)) ∙ at (has_begun rs t) (not (has_ended rs t))
  where
    at : (a c : Bool)
        → option_map (entry_of rs) (cond (a && (a && c)) (Some t) None) ≡ cond (a && c) (Some (entry_of rs t)) None
    at true true = refl
    at true false = refl
    at false c = refl

pub holder_in-table_of : (rs : List Record) (page slot : ℕ) (kind : ChangeKind) (t : ℕ)
    → holder_in (table_of rs) page slot kind t ≡ holder rs page slot kind t
holder_in-table_of rs page slot kind t =
    let holds = λ (e : TxnEntry). not (eqb e.txn t) && list_any (keeps_out page slot kind) e.pending in
    let holders = filter (λ o. holds (entry_of rs o)) (open_in rs) in
    ap least
    (ap (map (λ (e : TxnEntry). e.txn)) (filter-map (entry_of rs) holds (open_in rs))
    ∙ map-map (λ (e : TxnEntry). e.txn) (entry_of rs) holders ∙ map-id holders)

pub owed_in-table_of : (rs : List Record) → owed_in (table_of rs) ≡ owed rs
owed_in-table_of rs = fold-map (λ a (e : TxnEntry). a + owed_by_entry e) (entry_of rs) 0 (open_in rs)

-- ---- its entry of an open transaction

has_entry : (rs : List Record) (t : ℕ) (P : TxnEntry → Type 0) → is_open rs t ≡ true → P (entry_of rs t)
    → IsSomeAnd (entry_in (table_of rs) t) P
has_entry rs t P still holds =
    let found : entry_in (table_of rs) t ≡ Some (entry_of rs t) =
    entry_in-table_of rs t ∙ ap (λ b. cond b (Some (entry_of rs t)) None) still in
    subst (λ o. IsSomeAnd o P) (sym found) holds

from_entry : (rs : List Record) (t : ℕ) (P : TxnEntry → Type 0) → IsSomeAnd (entry_in (table_of rs) t) P
    → (is_open rs t ≡ true) × P (entry_of rs t)
from_entry rs t P holds = at (is_open rs t) refl (subst (λ o. IsSomeAnd o P) (entry_in-table_of rs t) holds)
  where
    at : (b : Bool) → is_open rs t ≡ b → IsSomeAnd (cond b (Some (entry_of rs t)) None) P
        → (is_open rs t ≡ true) × P (entry_of rs t)
    at true still here = (still, here)
    at false still here = absurd here

has_active : (rs : List Record) (t prev : ℕ) → IsActive rs t prev
    → IsSomeAnd (entry_in (table_of rs) t) (IsActiveEntry prev)
has_active rs t prev active =
    let goes_on = active.goes_on in
    has_entry rs t (IsActiveEntry prev) goes_on.still_open record { chained = goes_on.chained; active = active.active }

from_active : (rs : List Record) (t prev : ℕ) → IsSomeAnd (entry_in (table_of rs) t) (IsActiveEntry prev)
    → IsActive rs t prev
from_active rs t prev holds =
    let here = from_entry rs t (IsActiveEntry prev) holds in
    record { goes_on = record { still_open = here.0; chained = here.1.chained }; active = here.1.active }

-- ---- which record may come next

abbrev Undoes : ℕ → ℕ → ℕ → ℕ → Change → TxnEntry → Type 0
Undoes prev undo_next page slot change e =
    IsChained prev e × IsSomeAnd (last_of e.pending) (Compensates undo_next page slot change)

abbrev IsUndone : ℕ → TxnEntry → Type 0
IsUndone prev e = IsChained prev e × (e.pending ≡ [])

pub may_note : (rs : List Record) (r : Record) → MayFollow rs r → MayNote (table_of rs) r
may_note rs (Begin lsn t) may =
    let same_count = length-map (open_in rs) (entry_of rs) in
    (may.next, subst (λ n. n < MAX_OPEN) (sym same_count) may.room)
may_note rs (Update lsn t prev page slot change) may =
    (has_active rs t prev may.active, holder_in-table_of rs page slot (kind_of change) t ∙ may.free)
may_note rs (Comp lsn t prev undo_next page slot change) may =
    has_entry rs t (Undoes prev undo_next page slot change) may.0.still_open (may.0.chained, may.1)
may_note rs (Commit lsn t prev) may = has_active rs t prev may
may_note rs (Abort lsn t prev) may = has_active rs t prev may
may_note rs (End lsn t prev) may = has_entry rs t (IsUndone prev) may.0.still_open (may.0.chained, may.1)
may_note rs (ChkptTxns lsn begin t state last undo) may =
    let now = may.1 in
    has_entry rs t (IsEntryNow state last undo) now.still_open record {
      same_state = now.same_state;
      same_last = now.same_last;
      same_undo = now.same_undo;
    }
may_note rs (BeginChkpt lsn) may = tt
may_note rs (ChkptPages lsn begin pages) may = tt
may_note rs (EndChkpt lsn begin redo) may = tt
may_note rs (Extend lsn pages) may = tt

pub goes_with_checkpoint : (rs : List Record) (r : Record) → MayFollow rs r → GoesWithCheckpoint rs r
goes_with_checkpoint rs (BeginChkpt lsn) may = may
goes_with_checkpoint rs (ChkptPages lsn begin pages) may = may
goes_with_checkpoint rs (ChkptTxns lsn begin t state last undo) may = may.0
goes_with_checkpoint rs (EndChkpt lsn begin redo) may = may
goes_with_checkpoint rs (Extend lsn pages) may = may
goes_with_checkpoint rs other may = tt

pub names_number : (rs : List Record) (r : Record) → MayFollow rs r → NamesNumber rs r
names_number rs (Update lsn t prev page slot change) may = may.replaces
names_number rs r may = tt

pub may_follow : (rs : List Record) (r : Record) → MayNote (table_of rs) r → NamesNumber rs r
    → GoesWithCheckpoint rs r → MayFollow rs r
may_follow rs (Begin lsn t) may names goes =
    let same_count = length-map (open_in rs) (entry_of rs) in
    record { next = may.0; room = subst (λ n. n < MAX_OPEN) same_count may.1 }
may_follow rs (Update lsn t prev page slot change) may names goes = record {
  active = from_active rs t prev may.0;
  free = sym (holder_in-table_of rs page slot (kind_of change) t) ∙ may.1;
  replaces = names;
}
may_follow rs (Comp lsn t prev undo_next page slot change) may names goes =
    let here = from_entry rs t (Undoes prev undo_next page slot change) may in
    (record { still_open = here.0; chained = here.1.0 }, here.1.1)
may_follow rs (Commit lsn t prev) may names goes = from_active rs t prev may
may_follow rs (Abort lsn t prev) may names goes = from_active rs t prev may
may_follow rs (End lsn t prev) may names goes =
    let here = from_entry rs t (IsUndone prev) may in
    (record { still_open = here.0; chained = here.1.0 }, here.1.1)
may_follow rs (BeginChkpt lsn) may names goes = goes
may_follow rs (ChkptPages lsn begin pages) may names goes = goes
may_follow rs (ChkptTxns lsn begin t state last undo) may names goes =
    let here = from_entry rs t (IsEntryNow state last undo) may in
    let now = here.1 in (
      goes,
      record {
        still_open = here.0;
        same_state = now.same_state;
        same_last = now.same_last;
        same_undo = now.same_undo;
      },
    )
may_follow rs (EndChkpt lsn begin redo) may names goes = goes
may_follow rs (Extend lsn pages) may names goes = goes
