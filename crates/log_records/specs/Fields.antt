-- The numbers that the bytes of a record spell.
use Rattle.std.specs.Prelude.{ℕ, ◌<◌, ◌^◌, List, ◌++◌}
use Rattle.std.specs.Int.{w16, w32, w64, to_le_bytes}
use Rattle.page_core.specs.declared.change.Change.{Change}
use Rattle.page_core.specs.declared.change.Change.TheVariants.{Set, Add}
use Rattle.log_records.specs.declared.record.Record.{Record}
use Rattle.log_records.specs.declared.record.Record.TheVariants.{Begin, Update, Comp, Commit, Abort}
use Rattle.log_records.specs.declared.record.Record.TheVariants.{End, BeginChkpt, ChkptPages}
use Rattle.log_records.specs.declared.record.Record.TheVariants.{ChkptTxns, EndChkpt, Extend}
use Rattle.log_records.specs.declared.fields.Fields.{Fields}
use Rattle.log_records.specs.declared.fields.TheConstants.{ABORT, ADD, BEGIN, COMMIT, COMP, END}
use Rattle.log_records.specs.declared.fields.TheConstants.{EXTEND, SET, UPDATE}

-- each number with its lowest byte first, one after another: 64 bytes
unfoldable pub fields_bytes : Fields → List ℕ
fields_bytes f =
    to_le_bytes w32 f.kind ++ to_le_bytes w32 f.txn ++ to_le_bytes w64 f.prev
    ++ to_le_bytes w64 f.undo_next
    ++ to_le_bytes w32 f.page ++ to_le_bytes w16 f.slot ++ to_le_bytes w16 f.change
    ++ to_le_bytes w64 f.before ++ to_le_bytes w64 f.after ++ to_le_bytes w64 f.spare
    ++ to_le_bytes w64 f.lsn

-- each number fits its bytes
pub record AreInRange (f : Fields) : Type 0 where
  pub kind : f.kind < 2 ^ 32
  pub txn : f.txn < 2 ^ 32
  pub prev : f.prev < 2 ^ 64
  pub undo_next : f.undo_next < 2 ^ 64
  pub page : f.page < 2 ^ 32
  pub slot : f.slot < 2 ^ 16
  pub change : f.change < 2 ^ 16
  pub before : f.before < 2 ^ 64
  pub after : f.after < 2 ^ 64
  pub spare : f.spare < 2 ^ 64
  pub lsn : f.lsn < 2 ^ 64

-- the numbers of what has none
abbrev pub no_fields : Fields
no_fields = record {
  kind = 0;
  txn = 0;
  prev = 0;
  undo_next = 0;
  page = 0;
  slot = 0;
  change = 0;
  before = 0;
  after = 0;
  spare = 0;
  lsn = 0;
}

-- the numbers of a change alone
abbrev pub fields_of_change : Change → Fields
fields_of_change (Set before after) =
    record no_fields { change = SET; before = before; after = after }
fields_of_change (Add amount) = record no_fields { change = ADD; after = amount }

-- the numbers of a record that only says what its transaction does next
abbrev pub fields_of_step : ℕ → ℕ → ℕ → ℕ → Fields
fields_of_step kind txn prev lsn = record no_fields {
  kind = kind;
  txn = txn;
  prev = prev;
  lsn =
      lsn;
}

-- the numbers of a transaction's record, or of an Extend; what a kind does not have is 0. A
-- checkpoint's record has none of them
abbrev pub fields_of : Record → Fields
fields_of (Begin lsn txn) = fields_of_step BEGIN txn 0 lsn
fields_of (Update lsn txn prev page slot change) = record (fields_of_change change) {
  kind = UPDATE;
  txn = txn;
  prev = prev;
  page = page;
  slot = slot;
  lsn = lsn;
}
fields_of (Comp lsn txn prev undo_next page slot change) = record (fields_of_change change) {
  kind = COMP;
  txn = txn;
  prev = prev;
  undo_next = undo_next;
  page = page;
  slot = slot;
  lsn = lsn;
}
fields_of (Commit lsn txn prev) = fields_of_step COMMIT txn prev lsn
fields_of (Abort lsn txn prev) = fields_of_step ABORT txn prev lsn
fields_of (End lsn txn prev) = fields_of_step END txn prev lsn
fields_of (BeginChkpt lsn) = no_fields
fields_of (ChkptPages lsn begin pages) = no_fields
fields_of (ChkptTxns lsn begin txn state last undo_next) = no_fields
fields_of (EndChkpt lsn begin redo) = no_fields
fields_of (Extend lsn pages) = record no_fields { kind = EXTEND; page = pages; lsn = lsn }

-- a record that these numbers tell: a transaction's, or an Extend
abbrev pub HasFields : Record → Type 0
HasFields (Begin lsn txn) = Unit {0}
HasFields (Update lsn txn prev page slot change) = Unit {0}
HasFields (Comp lsn txn prev undo_next page slot change) = Unit {0}
HasFields (Commit lsn txn prev) = Unit {0}
HasFields (Abort lsn txn prev) = Unit {0}
HasFields (End lsn txn prev) = Unit {0}
HasFields (Extend lsn pages) = Unit {0}
HasFields (BeginChkpt lsn) = ⊥
HasFields (ChkptPages lsn begin pages) = ⊥
HasFields (ChkptTxns lsn begin txn state last undo_next) = ⊥
HasFields (EndChkpt lsn begin redo) = ⊥
