-- Which records are shown.
use Rattle.std.specs.Prelude.{ℕ, ◌≡◌, ◌⊎◌, ◌≤◌, true, IfSome, None, Option}
use Rattle.log_records.specs.declared.dirty_page.DirtyPages.{DirtyPages}
use Rattle.log_records.specs.declared.dirty_page.DirtyPages.TheVariants.{One, Three, Two}
use Rattle.log_records.specs.declared.record.Record.{Record}
use Rattle.log_records.specs.declared.record.Record.TheVariants.{Abort, Begin, BeginChkpt}
use Rattle.log_records.specs.declared.record.Record.TheVariants.{ChkptPages, ChkptTxns, Commit}
use Rattle.log_records.specs.declared.record.Record.TheVariants.{Comp, End, EndChkpt, Extend}
use Rattle.log_records.specs.declared.record.Record.TheVariants.{Update}
use Rattle.log_records.specs.Record.{own_lsn}
use Rattle.file_view.specs.declared.wanted.Wanted.{Wanted}

-- the LSN lies within the bounds that are told, both included
abbrev pub IsIn : Option ℕ → Option ℕ → ℕ → Type 0
IsIn from to lsn = IfSome from (λ least. least ≤ lsn) × IfSome to (λ most. lsn ≤ most)

-- it is this number, if one is told
abbrev pub Is : Option ℕ → ℕ → Type 0
Is wanted number = IfSome wanted (λ told. number ≡ told)

-- one of the dirty pages is this one
abbrev pub HasPage : ℕ → DirtyPages → Type 0
HasPage page (One a) = a.page ≡ page
HasPage page (Two a b) = (a.page ≡ page) ⊎ (b.page ≡ page)
HasPage page (Three a b c) = (a.page ≡ page) ⊎ ((b.page ≡ page) ⊎ (c.page ≡ page))

-- the record names the transaction and the page, as far as these are told: it is one of the
-- transaction, or what a checkpoint found of it; it changes the page, or tells that it is dirty
abbrev pub Names : Option ℕ → Option ℕ → Record → Type 0
Names txn page (Begin lsn own) = Is txn own × (page ≡ None)
Names txn page (Update lsn own prev changed slot change) = Is txn own × Is page changed
Names txn page (Comp lsn own prev undo_next changed slot change) = Is txn own × Is page changed
Names txn page (Commit lsn own prev) = Is txn own × (page ≡ None)
Names txn page (Abort lsn own prev) = Is txn own × (page ≡ None)
Names txn page (End lsn own prev) = Is txn own × (page ≡ None)
Names txn page (BeginChkpt lsn) = (txn ≡ None) × (page ≡ None)
Names txn page (ChkptPages lsn begin dirty) = (txn ≡ None) × IfSome page (λ told. HasPage told dirty)
Names txn page (ChkptTxns lsn begin own state last undo_next) = Is txn own × (page ≡ None)
Names txn page (EndChkpt lsn begin redo) = (txn ≡ None) × (page ≡ None)
Names txn page (Extend lsn pages) = (txn ≡ None) × (page ≡ None)

-- the record says that its transaction commits
abbrev pub IsCommit : Record → Type 0
IsCommit (Commit lsn own prev) = Unit {0}
IsCommit other = ⊥

-- the record is shown
abbrev pub IsWanted : Wanted → Record → Type 0
IsWanted wanted entry = IsIn wanted.from wanted.to (own_lsn entry)
    × Names wanted.txn wanted.page entry × (wanted.commits ≡ true → IsCommit entry)
