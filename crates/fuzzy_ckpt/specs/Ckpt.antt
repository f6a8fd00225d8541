-- A fuzzy checkpoint that is being taken, while its log and the stored pages go on.
use Rattle.std.specs.Prelude.{ℕ, ◌≡◌, ◌<◌, List, [], length, Some, Contains, slice_index_or}
use Rattle.std.specs.List.{All}
use Rattle.page_core.specs.declared.page.Page.{Page}
use Rattle.log_records.specs.declared.record.Record.{Record}
use Rattle.log_records.specs.Coverage.{Covers}
use Rattle.log_records.specs.Log.{Log, page_count_below}
use Rattle.log_rules.specs.Checkpoint.{Checkpoint, open_checkpoint, redo_point}
use Rattle.log_rules.specs.Linked.{HasOldTxns}
use Rattle.log_rules.specs.Transactions.{first_lsn, open_in}

-- how far a checkpoint has come: it looks for dirty pages from a page number on, or for open
-- transactions from a number on, or has passed all of them
pub data Phase : Type 0 where
  in_pages : (from : ℕ) → Phase
  in_txns : (from : ℕ) → Phase
  gathered : Phase

-- a checkpoint that is being taken: the LSN of its BeginChkpt, the page count of the volume there,
-- the least of that LSN and of the RecLSNs so far, and how far it has come
pub record CkptView (P : Type 0) : Type 0 where
  pub begin : ℕ
  pub pages : ℕ
  pub redo : ℕ
  pub phase : P

abbrev pub at_phase : {P : Type 0} → Phase → CkptView P → CkptView Phase
at_phase phase c = record {
  begin = c.begin;
  pages = c.pages;
  redo = c.redo;
  phase = phase;
}

-- the checkpoint of each session, which has its cursor alone
abbrev pub pages_ckpt : CkptView ℕ → CkptView Phase
pages_ckpt c = at_phase (in_pages c.phase) c

abbrev pub txns_ckpt : CkptView ℕ → CkptView Phase
txns_ckpt c = at_phase (in_txns c.phase) c

abbrev pub gathered_ckpt : {P : Type 0} → CkptView P → CkptView Phase
gathered_ckpt c = at_phase gathered c

-- ---- a checkpoint and its log

-- the checkpoint has each transaction below a number that is open and began before it
abbrev pub HasOldTxnsBelow : List Record → ℕ → Checkpoint → Type 0
HasOldTxnsBelow rs from c =
    All (λ t. first_lsn rs t < c.begin → t < from → Contains c.txns t) (open_in rs)

-- the log has of the open checkpoint what lies behind its cursor, and nothing from there on
abbrev pub HasBehind : List Record → Phase → Checkpoint → Type 0
HasBehind rs (in_pages from) c = All (λ e. e.page < from) c.pages × (c.txns ≡ [])
HasBehind rs (in_txns from) c = All (λ t. t < from) c.txns × HasOldTxnsBelow rs from c
HasBehind rs gathered c = HasOldTxns rs c

-- it is the open checkpoint of this log
pub record IsCkptOf (log : Log) (it : CkptView Phase) : Type 0 where
  pub ckpt : Checkpoint
  pub still_open : open_checkpoint log.records ≡ Some ckpt
  pub same_begin : it.begin ≡ ckpt.begin
  pub same_pages : it.pages ≡ page_count_below log it.begin
  pub same_redo : it.redo ≡ redo_point ckpt
  pub behind : HasBehind log.records it.phase ckpt

-- ---- a checkpoint and the stored pages

-- the cursor has passed the page
abbrev pub IsPassed : Phase → ℕ → Type 0
IsPassed (in_pages from) number = number < from
IsPassed (in_txns from) number = Unit {0}
IsPassed gathered number = Unit {0}

-- behind the cursor each stored page has each of its changes below the redo point so far
abbrev pub AreCovered : List Record → List Page → CkptView Phase → Type 0
AreCovered rs stored it =
    (p : ℕ) (d : Page) → p < length stored → IsPassed it.phase p
    → Covers rs p (slice_index_or stored p d) it.redo

-- each stored page has each of its changes below an LSN
abbrev pub AllCover : List Record → List Page → ℕ → Type 0
AllCover rs stored bound =
    (p : ℕ) (d : Page) → p < length stored → Covers rs p (slice_index_or stored p d) bound
