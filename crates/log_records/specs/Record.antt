-- The records that a log may have, and their bytes.
use Rattle.std.specs.Prelude.{ℕ, ◌≡◌, ◌<◌, ◌≤◌, ◌^◌, ◌%◌, List, Option, Some, None}
use Rattle.page_core.specs.declared.change.Change.{Change}
use Rattle.page_core.specs.declared.change.Change.TheVariants.{Set, Add}
use Rattle.page_core.specs.declared.numbers.TheConstants.{LSN_STEP}
use Rattle.page_core.specs.declared.page.TheConstants.{MAX_PAGES, SLOTS}
use Rattle.log_records.specs.declared.limits.TheConstants.{HEADER_BYTES}
use Rattle.log_records.specs.declared.page_change.PageChange.{PageChange}
use Rattle.log_records.specs.declared.record.Record.{Record}
use Rattle.log_records.specs.declared.record.Record.TheVariants.{Begin, Update, Comp, Commit, Abort}
use Rattle.log_records.specs.declared.record.Record.TheVariants.{End, BeginChkpt, ChkptPages}
use Rattle.log_records.specs.declared.record.Record.TheVariants.{ChkptTxns, EndChkpt, Extend}
use Rattle.log_records.specs.declared.dirty_page.DirtyPage.{DirtyPage}
use Rattle.log_records.specs.declared.dirty_page.DirtyPages.{DirtyPages}
use Rattle.log_records.specs.declared.dirty_page.DirtyPages.TheVariants.{One, Two, Three}
use Rattle.log_records.specs.declared.fields.TheConstants.{BEGIN_CHKPT, CHKPT_PAGES, CHKPT_TXNS}
use Rattle.log_records.specs.declared.fields.TheConstants.{END_CHKPT}
use Rattle.log_records.specs.CkptBytes.{ckpt_bytes, code_of, no_body, pages_body, redo_body}
use Rattle.log_records.specs.CkptBytes.{txn_body}
use Rattle.log_records.specs.Fields.{fields_of, fields_bytes}

-- the number of a transaction
pub record IsTxn (txn : ℕ) : Type 0 where
  pub first : 1 ≤ txn
  pub fits : txn < 2 ^ 32

-- the offset of a record
pub record IsLsn (lsn : ℕ) : Type 0 where
  pub aligned : lsn % LSN_STEP ≡ 0
  pub past_header : HEADER_BYTES ≤ lsn
  pub fits : lsn < 2 ^ 64

-- the LSN of a record before the one at `at`
pub record IsBefore (at lsn : ℕ) : Type 0 where
  pub place : IsLsn lsn
  pub earlier : lsn < at

-- a page count that a volume may have
pub record IsPageCount (pages : ℕ) : Type 0 where
  pub least : 1 ≤ pages
  pub most : pages ≤ MAX_PAGES

-- the numbers of a change
abbrev pub IsChange : Change → Type 0
IsChange (Set before after) = (before < 2 ^ 64) × (after < 2 ^ 64)
IsChange (Add amount) = amount < 2 ^ 64

-- it does not say what it replaces, since it is never undone
abbrev pub HasNoBefore : Change → Type 0
HasNoBefore (Set before after) = before ≡ 0
HasNoBefore (Add amount) = Unit {0}

-- a change of a slot that a volume may have
pub record IsPageChange (c : PageChange) : Type 0 where
  pub page : c.page < MAX_PAGES
  pub slot : c.slot < SLOTS
  pub change : IsChange c.change

-- a dirty page that the record at `at` may name: any number of a page, since it is the log's page
-- count that bounds it
pub record IsDirtyPage (at : ℕ) (e : DirtyPage) : Type 0 where
  pub page : e.page < 2 ^ 32
  pub rec_lsn : IsBefore at e.rec_lsn

-- the dirty pages of the record at `at`: their numbers rise
abbrev pub AreDirtyPages : ℕ → DirtyPages → Type 0
AreDirtyPages at (One a) = IsDirtyPage at a
AreDirtyPages at (Two a b) = IsDirtyPage at a × IsDirtyPage at b × (a.page < b.page)
AreDirtyPages at (Three a b c) =
    IsDirtyPage at a × IsDirtyPage at b × IsDirtyPage at c × (a.page < b.page) × (b.page < c.page)

-- the record's own LSN
abbrev pub own_lsn : Record → ℕ
own_lsn (Begin lsn txn) = lsn
own_lsn (Update lsn txn prev page slot change) = lsn
own_lsn (Comp lsn txn prev undo_next page slot change) = lsn
own_lsn (Commit lsn txn prev) = lsn
own_lsn (Abort lsn txn prev) = lsn
own_lsn (End lsn txn prev) = lsn
own_lsn (BeginChkpt lsn) = lsn
own_lsn (ChkptPages lsn begin pages) = lsn
own_lsn (ChkptTxns lsn begin txn state last undo_next) = lsn
own_lsn (EndChkpt lsn begin redo) = lsn
own_lsn (Extend lsn pages) = lsn

-- a record of a checkpoint
abbrev pub IsOfCheckpoint : Record → Type 0
IsOfCheckpoint (BeginChkpt lsn) = Unit {0}
IsOfCheckpoint (ChkptPages lsn begin pages) = Unit {0}
IsOfCheckpoint (ChkptTxns lsn begin txn state last undo_next) = Unit {0}
IsOfCheckpoint (EndChkpt lsn begin redo) = Unit {0}
IsOfCheckpoint (Begin lsn txn) = ⊥
IsOfCheckpoint (Update lsn txn prev page slot change) = ⊥
IsOfCheckpoint (Comp lsn txn prev undo_next page slot change) = ⊥
IsOfCheckpoint (Commit lsn txn prev) = ⊥
IsOfCheckpoint (Abort lsn txn prev) = ⊥
IsOfCheckpoint (End lsn txn prev) = ⊥
IsOfCheckpoint (Extend lsn pages) = ⊥

-- a record of a transaction
abbrev pub IsOfTransaction : Record → Type 0
IsOfTransaction (Begin lsn txn) = Unit {0}
IsOfTransaction (Update lsn txn prev page slot change) = Unit {0}
IsOfTransaction (Comp lsn txn prev undo_next page slot change) = Unit {0}
IsOfTransaction (Commit lsn txn prev) = Unit {0}
IsOfTransaction (Abort lsn txn prev) = Unit {0}
IsOfTransaction (End lsn txn prev) = Unit {0}
IsOfTransaction (BeginChkpt lsn) = ⊥
IsOfTransaction (ChkptPages lsn begin pages) = ⊥
IsOfTransaction (ChkptTxns lsn begin txn state last undo_next) = ⊥
IsOfTransaction (EndChkpt lsn begin redo) = ⊥
IsOfTransaction (Extend lsn pages) = ⊥

-- the change that redo makes of a record, if it makes one
abbrev pub change_of : Record → Option PageChange
change_of (Begin lsn txn) = None
change_of (Update lsn txn prev page slot change) =
    Some (record { page = page; slot = slot; change = change })
change_of (Comp lsn txn prev undo_next page slot change) =
    Some (record { page = page; slot = slot; change = change })
change_of (Commit lsn txn prev) = None
change_of (Abort lsn txn prev) = None
change_of (End lsn txn prev) = None
change_of (BeginChkpt lsn) = None
change_of (ChkptPages lsn begin pages) = None
change_of (ChkptTxns lsn begin txn state last undo_next) = None
change_of (EndChkpt lsn begin redo) = None
change_of (Extend lsn pages) = None

-- a record that a log may have: only such a record has a spelling
abbrev pub IsRecord : Record → Type 0
IsRecord (Begin lsn txn) = IsLsn lsn × IsTxn txn
IsRecord (Update lsn txn prev page slot change) =
    IsLsn lsn × IsTxn txn × IsBefore lsn prev
    × IsPageChange (record { page = page; slot = slot; change = change })
IsRecord (Comp lsn txn prev undo_next page slot change) =
    IsLsn lsn × IsTxn txn × IsBefore lsn prev
    × IsPageChange (record { page = page; slot = slot; change = change })
    × IsBefore lsn undo_next × HasNoBefore change
IsRecord (Commit lsn txn prev) = IsLsn lsn × IsTxn txn × IsBefore lsn prev
IsRecord (Abort lsn txn prev) = IsLsn lsn × IsTxn txn × IsBefore lsn prev
IsRecord (End lsn txn prev) = IsLsn lsn × IsTxn txn × IsBefore lsn prev
IsRecord (BeginChkpt lsn) = IsLsn lsn
IsRecord (ChkptPages lsn begin pages) = IsLsn lsn × IsBefore lsn begin × AreDirtyPages lsn pages
IsRecord (ChkptTxns lsn begin txn state last undo_next) =
    IsLsn lsn × IsBefore lsn begin × IsTxn txn × IsBefore lsn last × IsBefore lsn undo_next
IsRecord (EndChkpt lsn begin redo) = IsLsn lsn × IsBefore lsn begin × IsBefore lsn redo
IsRecord (Extend lsn pages) = IsLsn lsn × IsPageCount pages

-- the 64 bytes of a record
abbrev pub record_bytes : Record → List ℕ
record_bytes (Begin lsn txn) = fields_bytes (fields_of (Begin lsn txn))
record_bytes (Update lsn txn prev page slot change) =
    fields_bytes (fields_of (Update lsn txn prev page slot change))
record_bytes (Comp lsn txn prev undo_next page slot change) =
    fields_bytes (fields_of (Comp lsn txn prev undo_next page slot change))
record_bytes (Commit lsn txn prev) = fields_bytes (fields_of (Commit lsn txn prev))
record_bytes (Abort lsn txn prev) = fields_bytes (fields_of (Abort lsn txn prev))
record_bytes (End lsn txn prev) = fields_bytes (fields_of (End lsn txn prev))
record_bytes (BeginChkpt lsn) = ckpt_bytes BEGIN_CHKPT 0 no_body lsn
record_bytes (ChkptPages lsn begin pages) = ckpt_bytes CHKPT_PAGES begin (pages_body pages) lsn
record_bytes (ChkptTxns lsn begin txn state last undo_next) =
    ckpt_bytes CHKPT_TXNS begin (txn_body txn (code_of state) last undo_next) lsn
record_bytes (EndChkpt lsn begin redo) = ckpt_bytes END_CHKPT begin (redo_body redo) lsn
record_bytes (Extend lsn pages) = fields_bytes (fields_of (Extend lsn pages))

-- the bytes are the one spelling of the record
pub record SpellsRecord (r : Record) (bytes : List ℕ) : Type 0 where
  pub valid : IsRecord r
  pub spelled : bytes ≡ record_bytes r
