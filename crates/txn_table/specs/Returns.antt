-- The Comps of a log that go back to savepoints.
use Rattle.std.specs.Prelude.{ℕ, ◌≡◌, ◌<◌, ◌≤◌, ◌++◌, false, List, [], ◌∷◌, length, Option, Some, None}
use Rattle.std.specs.Prelude.{if◌then◌else◌}
use Rattle.std.specs.List.{All, AllPairs}
use Rattle.std.specs.Option.{option_to_list}
use Rattle.log_records.specs.declared.record.Record.{Record}
use Rattle.log_records.specs.declared.record.Record.TheVariants.{Begin, Update, Comp, Commit, Abort}
use Rattle.log_records.specs.declared.record.Record.TheVariants.{End, BeginChkpt, ChkptPages}
use Rattle.log_records.specs.declared.record.Record.TheVariants.{ChkptTxns, EndChkpt, Extend}
use Rattle.log_rules.specs.Transactions.{begun, is_open, is_rolling, pending, without_last}
use Rattle.txn_table.specs.declared.returns.Return.{Return}

-- those of a log, and room for so many
pub record ReturnsView : Type 0 where
  pub made : List Return
  pub room : ℕ

-- what a record shows behind these, if it is a Comp of a transaction that does not roll back: it
-- leaves pending what was pending before, but for the last change
abbrev pub return_of : List Record → Record → Option Return
return_of before (Comp lsn txn prev undo_next page slot change) =
    if is_rolling before txn then None else Some (record {
      lsn = lsn;
      txn = txn;
      left = length (without_last (pending before txn));
    })
return_of before (Begin lsn txn) = None
return_of before (Update lsn txn prev page slot change) = None
return_of before (Commit lsn txn prev) = None
return_of before (Abort lsn txn prev) = None
return_of before (End lsn txn prev) = None
return_of before (BeginChkpt lsn) = None
return_of before (ChkptPages lsn begin pages) = None
return_of before (ChkptTxns lsn begin txn state last undo_next) = None
return_of before (EndChkpt lsn begin redo) = None
return_of before (Extend lsn pages) = None

abbrev pub returns_from : List Record → List Record → List Return
returns_from before [] = []
returns_from before (r ∷ rs) =
    option_to_list (return_of before r) ++ returns_from (before ++ r ∷ []) rs

-- what the records of a log show, in order
abbrev pub returns_of : List Record → List Return
returns_of rs = returns_from [] rs

-- the LSNs rise
abbrev pub AreRising : List Return → Type 0
AreRising made = AllPairs (λ a b. a.lsn < b.lsn) made

-- these are the last ones of a log, with each one of an open transaction: what it has before them is of
-- transactions up to a number, and of those none is open any more
pub record HasReturns (rs : List Record) (made : List Return) : Type 0 where
  pub gone : List Return
  pub all : returns_of rs ≡ gone ++ made
  pub past : ℕ
  pub within : past ≤ length (begun rs)
  pub older : All (λ x. x.txn ≤ past) gone
  pub ended : (t : ℕ) → t ≤ past → is_open rs t ≡ false
