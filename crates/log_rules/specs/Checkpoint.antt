-- The checkpoints of a log, read from its beginning.
use Rattle.std.specs.Prelude.{ℕ, ◌≡◌, ◌++◌, List, [], ◌∷◌, Option, Some, None, min, IsSomeAnd}
use Rattle.std.specs.List.{filter_map, fold}
use Rattle.std.specs.Option.{option_map}
use Rattle.log_records.specs.declared.dirty_page.DirtyPage.{DirtyPage}
use Rattle.log_records.specs.declared.record.Record.{Record}
use Rattle.log_records.specs.declared.record.Record.TheVariants.{Begin, Update, Comp, Commit, Abort}
use Rattle.log_records.specs.declared.record.Record.TheVariants.{End, BeginChkpt, ChkptPages}
use Rattle.log_records.specs.declared.record.Record.TheVariants.{ChkptTxns, EndChkpt, Extend}
use Rattle.log_records.specs.DirtyPage.{entries_of}
use Rattle.log_rules.specs.declared.ckpt_point.CkptPoint.{CkptPoint}

-- a checkpoint that is open: the LSN of its BeginChkpt, and the dirty pages and transactions that
-- it has so far
pub record Checkpoint : Type 0 where
  pub begin : ℕ
  pub pages : List DirtyPage
  pub txns : List ℕ

abbrev pub with_pages : List DirtyPage → Checkpoint → Checkpoint
with_pages pages c = record c { pages = c.pages ++ pages }

abbrev pub with_txn : ℕ → Checkpoint → Checkpoint
with_txn txn c = record c { txns = c.txns ++ txn ∷ [] }

-- the open checkpoint after one more record
abbrev pub checkpoint_after : Option Checkpoint → Record → Option Checkpoint
checkpoint_after c (BeginChkpt lsn) = Some (record { begin = lsn; pages = []; txns = [] })
checkpoint_after c (ChkptPages lsn begin pages) = option_map (with_pages (entries_of pages)) c
checkpoint_after c (ChkptTxns lsn begin txn state last undo_next) = option_map (with_txn txn) c
checkpoint_after c (EndChkpt lsn begin redo) = None
checkpoint_after c (Begin lsn txn) = c
checkpoint_after c (Update lsn txn prev page slot change) = c
checkpoint_after c (Comp lsn txn prev undo_next page slot change) = c
checkpoint_after c (Commit lsn txn prev) = c
checkpoint_after c (Abort lsn txn prev) = c
checkpoint_after c (End lsn txn prev) = c
checkpoint_after c (Extend lsn pages) = c

-- the checkpoint that is open at the end of a log, if one is
abbrev pub open_checkpoint : List Record → Option Checkpoint
open_checkpoint rs = fold checkpoint_after None rs

-- where redo has to begin: the least of its BeginChkpt's LSN and its RecLSNs
abbrev pub redo_point : Checkpoint → ℕ
redo_point c = fold (λ least e. min least e.rec_lsn) c.begin c.pages

-- a BeginChkpt and the EndChkpt of the same checkpoint
pub record IsCompleteCheckpoint (rs : List Record) (begin end : ℕ) : Type 0 where
  pub before : List Record
  pub behind : List Record
  pub redo : ℕ
  pub ended : rs ≡ before ++ EndChkpt end begin redo ∷ behind
  pub begun : IsSomeAnd (open_checkpoint before) (λ c. c.begin ≡ begin)

-- the checkpoint that a record completes
abbrev pub completed_by : Record → Option CkptPoint
completed_by (EndChkpt lsn begin redo) = Some (record { begin = begin; end = lsn; redo = redo })
completed_by (Begin lsn txn) = None
completed_by (Update lsn txn prev page slot change) = None
completed_by (Comp lsn txn prev undo_next page slot change) = None
completed_by (Commit lsn txn prev) = None
completed_by (Abort lsn txn prev) = None
completed_by (End lsn txn prev) = None
completed_by (BeginChkpt lsn) = None
completed_by (ChkptPages lsn begin pages) = None
completed_by (ChkptTxns lsn begin txn state last undo_next) = None
completed_by (Extend lsn pages) = None

-- the complete checkpoints of a log, in their order
abbrev pub completed_in : List Record → List CkptPoint
completed_in rs = filter_map completed_by rs
