-- What a reader keeps of the checkpoints of a log.
use Rattle.std.specs.Prelude.{ℕ, ◌≡◌, ◌-◌, ◌/◌, ◌<◌, ◌++◌, List, [], ◌∷◌, map, min}
use Rattle.std.specs.Prelude.{Option, Some, None, IfSome, IsSomeAnd, Contains, slice_get}
use Rattle.std.specs.List.{All, AllByRecursion, fold}
use Rattle.std.specs.Option.{option_map, option_map_or}
use Rattle.page_core.specs.declared.numbers.TheConstants.{LSN_STEP}
use Rattle.log_records.specs.declared.dirty_page.DirtyPage.{DirtyPage}
use Rattle.log_records.specs.declared.dirty_page.DirtyPages.{DirtyPages}
use Rattle.log_records.specs.declared.dirty_page.DirtyPages.TheVariants.{One, Two, Three}
use Rattle.log_records.specs.declared.record.Record.{Record}
use Rattle.log_records.specs.declared.record.Record.TheVariants.{Begin, Update, Comp, Commit, Abort}
use Rattle.log_records.specs.declared.record.Record.TheVariants.{End, BeginChkpt, ChkptPages}
use Rattle.log_records.specs.declared.record.Record.TheVariants.{ChkptTxns, EndChkpt, Extend}
use Rattle.log_records.specs.DirtyPage.{entries_of}
use Rattle.log_records.specs.Record.{change_of}
use Rattle.log_rules.specs.declared.no_page.TheConstants.{NO_PAGE}
use Rattle.log_rules.specs.declared.ckpt_point.CkptPoint.{CkptPoint}
use Rattle.log_rules.specs.Checkpoint.{Checkpoint, completed_in, open_checkpoint, redo_point}
use Rattle.log_rules.specs.Table.{Table}
use Rattle.log_rules.specs.Transactions.{last_of}

-- the open checkpoint: the LSN of its BeginChkpt, the last of its pages, its redo point so far, and
-- its transactions
pub record Current : Type 0 where
  pub begin : ℕ
  pub last_page : Option ℕ
  pub redo : ℕ
  pub txns : List ℕ

-- the page that each record of the log changes, or NO_PAGE; the open checkpoint, if one is; and the
-- complete ones
pub record CheckpointTable : Type 0 where
  pub changed : List ℕ
  pub current : Option Current
  pub complete : List CkptPoint

-- ---- the table of a log

abbrev pub page_of : Record → ℕ
page_of r = option_map_or (λ c. c.page) (change_of r) NO_PAGE

abbrev pub current_of : Checkpoint → Current
current_of c = record {
  begin = c.begin;
  last_page = option_map (λ e. e.page) (last_of c.pages);
  redo = redo_point c;
  txns = c.txns;
}

abbrev pub checkpoint_table_of : List Record → CheckpointTable
checkpoint_table_of rs = record {
  changed = map page_of rs;
  current = option_map current_of (open_checkpoint rs);
  complete = completed_in rs;
}

-- ---- which record may come next

-- the RecLSN names a record that changed the page
abbrev pub NamesChange : List ℕ → DirtyPage → Type 0
NamesChange changed e =
    (e.page < NO_PAGE) × (slice_get changed (e.rec_lsn / LSN_STEP - 1) ≡ Some e.page)

-- and so does each of these
abbrev pub AreChanges : List ℕ → DirtyPages → Type 0
AreChanges changed pages = AllByRecursion (NamesChange changed) (entries_of pages)

pub record MayAddPages (begin : ℕ) (pages : DirtyPages) (c : Current) : Type 0 where
  pub same : begin ≡ c.begin
  pub early : c.txns ≡ []
  pub above : IfSome c.last_page (λ last. AllByRecursion (λ e. last < e.page) (entries_of pages))

pub record MayAddTxn (begin txn : ℕ) (c : Current) : Type 0 where
  pub same : begin ≡ c.begin
  pub above : IfSome (last_of c.txns) (λ last. last < txn)

-- it has each transaction of the table that began before it
abbrev pub HasOldEntries : Table → ℕ → List ℕ → Type 0
HasOldEntries table begin txns = All (λ e. e.first < begin → Contains txns e.txn) table.entries

pub record MayClose (table : Table) (begin redo : ℕ) (c : Current) : Type 0 where
  pub same : begin ≡ c.begin
  pub least : redo ≡ c.redo
  pub complete : HasOldEntries table c.begin c.txns

-- the record may come next, as far as the checkpoints say
abbrev pub MayNoteCheckpoint : Table → CheckpointTable → Record → Type 0
MayNoteCheckpoint table t (BeginChkpt lsn) = t.current ≡ None
MayNoteCheckpoint table t (ChkptPages lsn begin pages) =
    IsSomeAnd t.current (MayAddPages begin pages) × AreChanges t.changed pages
MayNoteCheckpoint table t (ChkptTxns lsn begin txn state last undo) =
    IsSomeAnd t.current (MayAddTxn begin txn)
MayNoteCheckpoint table t (EndChkpt lsn begin redo) =
    IsSomeAnd t.current (MayClose table begin redo)
MayNoteCheckpoint table t (Begin lsn txn) = Unit {0}
MayNoteCheckpoint table t (Update lsn txn prev page slot change) = Unit {0}
MayNoteCheckpoint table t (Comp lsn txn prev undo_next page slot change) = Unit {0}
MayNoteCheckpoint table t (Commit lsn txn prev) = Unit {0}
MayNoteCheckpoint table t (Abort lsn txn prev) = Unit {0}
MayNoteCheckpoint table t (End lsn txn prev) = Unit {0}
MayNoteCheckpoint table t (Extend lsn pages) = Unit {0}

-- ---- the table after one more record

-- the last of one to three pages
abbrev pub last_page_of : DirtyPages → ℕ
last_page_of (One a) = a.page
last_page_of (Two a b) = b.page
last_page_of (Three a b c) = c.page

abbrev pub add_pages : DirtyPages → Current → Current
add_pages pages c = record c {
  last_page = Some (last_page_of pages);
  redo = fold (λ least e. min least e.rec_lsn) c.redo (entries_of pages);
}

abbrev pub add_txn : ℕ → Current → Current
add_txn txn c = record c { txns = c.txns ++ txn ∷ [] }

abbrev pub current_after : Option Current → Record → Option Current
current_after c (BeginChkpt lsn) =
    Some (record { begin = lsn; last_page = None; redo = lsn; txns = [] })
current_after c (ChkptPages lsn begin pages) = option_map (add_pages pages) c
current_after c (ChkptTxns lsn begin txn state last undo) = option_map (add_txn txn) c
current_after c (EndChkpt lsn begin redo) = None
current_after c (Begin lsn txn) = c
current_after c (Update lsn txn prev page slot change) = c
current_after c (Comp lsn txn prev undo_next page slot change) = c
current_after c (Commit lsn txn prev) = c
current_after c (Abort lsn txn prev) = c
current_after c (End lsn txn prev) = c
current_after c (Extend lsn pages) = c

abbrev pub complete_after : List CkptPoint → Record → List CkptPoint
complete_after cs (EndChkpt lsn begin redo) =
    cs ++ record { begin = begin; end = lsn; redo = redo } ∷ []
complete_after cs (Begin lsn txn) = cs
complete_after cs (Update lsn txn prev page slot change) = cs
complete_after cs (Comp lsn txn prev undo_next page slot change) = cs
complete_after cs (Commit lsn txn prev) = cs
complete_after cs (Abort lsn txn prev) = cs
complete_after cs (End lsn txn prev) = cs
complete_after cs (BeginChkpt lsn) = cs
complete_after cs (ChkptPages lsn begin pages) = cs
complete_after cs (ChkptTxns lsn begin txn state last undo) = cs
complete_after cs (Extend lsn pages) = cs

abbrev pub noted_checkpoint : CheckpointTable → Record → CheckpointTable
noted_checkpoint t r = record {
  changed = t.changed ++ page_of r ∷ [];
  current = current_after t.current r;
  complete = complete_after t.complete r;
}
