-- The open transactions of a log with their pending changes, and how its records tell of them.
use Rattle.std.specs.Prelude.{ℕ, ◌≡◌, ◌<◌, ◌≤◌, Bool, List, [], ◌∷◌, map, length}
use Rattle.std.specs.Prelude.{reverse}
use Rattle.std.specs.Prelude.{Option, Some, None, slice_index_or}
use Rattle.std.specs.List.{filter_map}
use Rattle.log_records.specs.declared.limits.TheConstants.{MAX_RECORDS}
use Rattle.log_records.specs.declared.record.Record.{Record}
use Rattle.log_records.specs.declared.record.Record.TheVariants.{Begin, Update, Comp, Commit, Abort}
use Rattle.log_records.specs.declared.record.Record.TheVariants.{End, BeginChkpt, ChkptPages}
use Rattle.log_records.specs.declared.record.Record.TheVariants.{ChkptTxns, EndChkpt, Extend}
use Rattle.log_records.specs.Log.{lsn_of}
use Rattle.log_rules.specs.declared.pending_change.PendingChange.{PendingChange}
use Rattle.log_rules.specs.Linked.{IsLinked}
use Rattle.log_rules.specs.Table.{TxnEntry, entry_of}
use Rattle.log_rules.specs.Transactions.{first_lsn, is_abort, open_in}

-- ---- what is asked for

-- of each open transaction, in order of their numbers
abbrev pub losers_of : List Record → List TxnEntry
losers_of rs = map (entry_of rs) (open_in rs)

-- these are the losers of this linked log
pub record AreLosersOf (rs : List Record) (losers : List TxnEntry) : Type 0 where
  pub linked : IsLinked rs
  pub few : length rs ≤ MAX_RECORDS
  pub made : losers ≡ losers_of rs

-- ---- how the records tell it

-- the record stands at this LSN
pub record StandsAtLsn (rs : List Record) (at : ℕ) (r : Record) : Type 0 where
  pub place : ℕ
  pub within : place < length rs
  pub at_is : at ≡ lsn_of place
  pub is : (d : Record) → slice_index_or rs place d ≡ r

-- where the search for a transaction's pending changes goes on behind a record, if it does: a Comp
-- names the place in its UndoNxt, so that what was taken back is passed over, and an Update and an
-- Abort in their PrevLSN
abbrev pub way_back : Record → Option ℕ
way_back (Update lsn t prev page slot change) = Some prev
way_back (Comp lsn t prev undo_next page slot change) = Some undo_next
way_back (Abort lsn t prev) = Some prev
way_back (Begin lsn t) = None
way_back (Commit lsn t prev) = None
way_back (End lsn t prev) = None
way_back (BeginChkpt lsn) = None
way_back (ChkptPages lsn begin pages) = None
way_back (ChkptTxns lsn begin t state last undo_next) = None
way_back (EndChkpt lsn begin redo) = None
way_back (Extend lsn pages) = None

-- from this LSN on the search meets these records, and then the Begin
abbrev pub Leads : List Record → ℕ → ℕ → ℕ → List Record → Type 0
Leads rs t first at [] = (at ≡ first) × StandsAtLsn rs at (Begin at t)
Leads rs t first at (r ∷ more) =
    StandsAtLsn rs at r × ((next : ℕ) × ((way_back r ≡ Some next) × Leads rs t first next more))

-- the change that an Update made
abbrev pub change_by : Record → Option PendingChange
change_by (Update lsn t prev page slot change) =
    Some (record { lsn = lsn; prev = prev; page = page; slot = slot; change = change })
change_by (Begin lsn t) = None
change_by (Comp lsn t prev undo_next page slot change) = None
change_by (Commit lsn t prev) = None
change_by (Abort lsn t prev) = None
change_by (End lsn t prev) = None
change_by (BeginChkpt lsn) = None
change_by (ChkptPages lsn begin pages) = None
change_by (ChkptTxns lsn begin t state last undo_next) = None
change_by (EndChkpt lsn begin redo) = None
change_by (Extend lsn pages) = None

-- the PrevLSN of a Comp
abbrev pub before_comp : Record → Option ℕ
before_comp (Comp lsn t prev undo_next page slot change) = Some prev
before_comp (Begin lsn t) = None
before_comp (Update lsn t prev page slot change) = None
before_comp (Commit lsn t prev) = None
before_comp (Abort lsn t prev) = None
before_comp (End lsn t prev) = None
before_comp (BeginChkpt lsn) = None
before_comp (ChkptPages lsn begin pages) = None
before_comp (ChkptTxns lsn begin t state last undo_next) = None
before_comp (EndChkpt lsn begin redo) = None
before_comp (Extend lsn pages) = None

-- from this LSN on PrevLSN leads over Comps, of which these are the LSNs behind the first, to a
-- record that is an Abort or is none
abbrev pub LeadsToAbort : List Record → Bool → ℕ → List ℕ → Type 0
LeadsToAbort rs rolling at [] =
    (r : Record) × StandsAtLsn rs at r × (before_comp r ≡ None) × (is_abort r ≡ rolling)
LeadsToAbort rs rolling at (next ∷ more) =
    (r : Record) × StandsAtLsn rs at r × (before_comp r ≡ Some next)
    × LeadsToAbort rs rolling next more

-- what the records tell of an open transaction, from its last one back
pub record IsTraced (rs : List Record) (e : TxnEntry) : Type 0 where
  pub way : List Record
  pub leads : Leads rs e.txn e.first e.last way
  pub pending : filter_map change_by way ≡ reverse e.pending
  pub comps : List ℕ
  pub rolling : LeadsToAbort rs e.rolling e.last comps

-- from this LSN on the search meets just these changes, the last one first, and then the Begin of
-- the transaction
pub record IsStackAt (rs : List Record) (t at : ℕ) (stack : List PendingChange) : Type 0 where
  pub way : List Record
  pub leads : Leads rs t (first_lsn rs t) at way
  pub stack_is : filter_map change_by way ≡ reverse stack
