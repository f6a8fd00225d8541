-- The records that go back to no savepoint.
use Rattle.std.proofs.Common.{◌≡◌, List, refl}
use Rattle.std.specs.Prelude.{None}
use Rattle.log_records.specs.declared.record.Record.{Record}
use Rattle.log_records.specs.declared.record.Record.TheVariants.{Begin, Update, Comp, Commit, Abort, End, BeginChkpt}
use Rattle.log_records.specs.declared.record.Record.TheVariants.{ChkptPages, ChkptTxns, EndChkpt, Extend}
use Rattle.log_records.specs.Record.{IsOfCheckpoint}
use Rattle.txn_table.specs.Returns.{return_of}

-- no record of a checkpoint goes back
pub none_of_checkpoint : (rs : List Record) (r : Record) → IsOfCheckpoint r → return_of rs r ≡ None
none_of_checkpoint rs (BeginChkpt lsn) of = refl
none_of_checkpoint rs (ChkptPages lsn begin pages) of = refl
none_of_checkpoint rs (ChkptTxns lsn begin txn state last undo_next) of = refl
none_of_checkpoint rs (EndChkpt lsn begin redo) of = refl
none_of_checkpoint rs (Extend lsn count) of = refl
none_of_checkpoint rs (Begin lsn txn) of = absurd of
none_of_checkpoint rs (Update lsn txn prev page slot change) of = absurd of
none_of_checkpoint rs (Comp lsn txn prev undo_next page slot change) of = absurd of
none_of_checkpoint rs (Commit lsn txn prev) of = absurd of
none_of_checkpoint rs (Abort lsn txn prev) of = absurd of
none_of_checkpoint rs (End lsn txn prev) of = absurd of
