-- What the steps of a checkpoint append, and what it is after them.
use Rattle.std.specs.Prelude.{ℕ, ◌+◌, ◌<◌, List, [], ◌∷◌, length, min, Option, Some, None}
use Rattle.std.specs.Prelude.{IfSome}
use Rattle.std.specs.List.{fold}
use Rattle.std.specs.Option.{option_map_or}
use Rattle.log_records.specs.declared.dirty_page.DirtyPage.{DirtyPage}
use Rattle.log_records.specs.declared.dirty_page.DirtyPages.{DirtyPages}
use Rattle.log_records.specs.declared.dirty_page.DirtyPages.TheVariants.{One, Two, Three}
use Rattle.log_records.specs.declared.limits.TheConstants.{MAX_RECORDS}
use Rattle.log_records.specs.declared.record.Record.{Record}
use Rattle.log_records.specs.declared.record.Record.TheVariants.{ChkptPages, ChkptTxns, EndChkpt}
use Rattle.log_records.specs.Coverage.{dirty, next_dirty}
use Rattle.log_records.specs.DirtyPage.{entries_of}
use Rattle.log_records.specs.Log.{Log, lsn_of, page_count, with_next}
use Rattle.log_rules.specs.Transactions.{last_lsn, phase, undo_next}
use Rattle.txn_table.specs.TxnTable.{next_open}
use Rattle.fuzzy_ckpt.specs.Ckpt.{CkptView, Phase, gathered, in_pages, in_txns}

-- the LSN that the next record has
abbrev pub end_of : List Record → ℕ
end_of rs = lsn_of (length rs)

-- a checkpoint whose BeginChkpt comes next in the log, before anything is gathered
abbrev pub new_ckpt : Log → CkptView Phase
new_ckpt log = record {
  begin = end_of log.records;
  pages = page_count log;
  redo = end_of log.records;
  phase = in_pages 0;
}

-- what a step of a gather does: the record that it appends, if it appends one, and the checkpoint
-- after it
pub record Gathering : Type 0 where
  pub next : Option Record
  pub ckpt : CkptView Phase

-- the log with what a step appends
abbrev pub with_step : Log → Option Record → Log
with_step log next = option_map_or (λ r. with_next log (r ∷ [])) next log

-- a step that appends a record has room for it
abbrev pub HasRoomForStep : List Record → Option Record → Type 0
HasRoomForStep rs next = IfSome next (λ r. length rs < MAX_RECORDS)

-- ---- dirty pages

-- the first of these entries, at most three
abbrev pub pages_of : List DirtyPage → Option DirtyPages
pages_of [] = None
pages_of (a ∷ []) = Some (One a)
pages_of (a ∷ b ∷ []) = Some (Two a b)
pages_of (a ∷ b ∷ c ∷ rest) = Some (Three a b c)

abbrev pub last_page : DirtyPages → ℕ
last_page (One a) = a.page
last_page (Two a b) = b.page
last_page (Three a b c) = c.page

-- the checkpoint with these pages: its cursor is behind the last of them
abbrev pub past_pages : DirtyPages → CkptView Phase → CkptView Phase
past_pages pages c = record {
  begin = c.begin;
  pages = c.pages;
  redo = fold (λ least e. min least e.rec_lsn) c.redo (entries_of pages);
  phase = in_pages (last_page pages + 1);
}

-- the next dirty pages go into a record; where none is left, transactions come next
abbrev pub pages_step : List Record → List ℕ → ℕ → CkptView Phase → Gathering
pages_step rs written from c =
    option_map_or (λ pages. record {
      next = Some (ChkptPages (end_of rs) c.begin pages);
      ckpt = past_pages pages c;
    })
    (pages_of (next_dirty (dirty rs written) from))
    (record { next = None; ckpt = record c { phase = in_txns 0 } })

-- ---- open transactions

-- the entry of an open transaction
abbrev pub txn_record : List Record → ℕ → ℕ → Record
txn_record rs begin t =
    ChkptTxns (end_of rs) begin t (phase rs t) (last_lsn rs t) (undo_next rs t)

-- the next open transaction goes into a record; where none is left, all is gathered
abbrev pub txns_step : List Record → ℕ → CkptView Phase → Gathering
txns_step rs from c =
    option_map_or (λ t. record {
      next = Some (txn_record rs c.begin t);
      ckpt = record c { phase = in_txns (t + 1) };
    })
    (next_open rs from)
    (record { next = None; ckpt = record c { phase = gathered } })

-- one step of a gather, of pages with these last writes; there is none once all is gathered
abbrev pub step_in : Phase → List Record → List ℕ → CkptView Phase → Gathering
step_in (in_pages from) rs written c = pages_step rs written from c
step_in (in_txns from) rs written c = txns_step rs from c
step_in gathered rs written c = record { next = None; ckpt = c }

abbrev pub gather_step : List Record → List ℕ → CkptView Phase → Gathering
gather_step rs written c = step_in c.phase rs written c

-- ---- the end

abbrev pub end_record : {P : Type 0} → List Record → CkptView P → Record
end_record rs c = EndChkpt (end_of rs) c.begin c.redo
