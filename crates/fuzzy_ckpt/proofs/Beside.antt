-- A record of a checkpoint leaves the pool and the table of the log what they are.
use Rattle.std.proofs.Common.{◌≡◌, ◌<◌, List, [], ◌∷◌, ◌++◌, length, refl, sym, subst, ◌∙◌, arith}
use Rattle.std.specs.Prelude.{None}
use Rattle.std.proofs.lemmas.List.{length_push}
use Rattle.page_core.specs.declared.page.Page.{Page}
use Rattle.log_records.specs.declared.limits.TheConstants.{MAX_RECORDS}
use Rattle.log_records.specs.declared.record.Record.{Record}
use Rattle.log_records.specs.declared.record.Record.TheVariants.{BeginChkpt, ChkptPages, ChkptTxns, EndChkpt}
use Rattle.log_records.specs.Log.{IsLog, Log, with_next}
use Rattle.log_records.specs.Record.{IsOfCheckpoint, change_of}
use Rattle.log_records.proofs.Public.{checkpoint_gives_none}
use Rattle.log_records.proofs.Public.{none_changed}
use Rattle.log_rules.specs.Linked.{MayFollow}
use Rattle.log_rules.specs.Table.{Table, noted, table_of}
use Rattle.log_rules.proofs.Public.{linked_push}
use Rattle.log_rules.proofs.Public.{table_of_push}
use Rattle.buffer_pool.specs.Pool.{IsPoolOf, PoolView}
use Rattle.buffer_pool.proofs.Public.{pool_same}
use Rattle.txn_table.specs.TxnTable.{IsTableOf}

changes_none : (r : Record) → IsOfCheckpoint r → change_of r ≡ None
changes_none (BeginChkpt lsn) of = refl
changes_none (ChkptPages lsn begin pages) of = refl
changes_none (ChkptTxns lsn begin txn state last undo) of = refl
changes_none (EndChkpt lsn begin redo) of = refl
changes_none other of = absurd of

pub pool_kept : {S : Type 0} (stored_in : S → List Page) (log : Log) (r : Record) (pool : PoolView S) → IsOfCheckpoint r
    → IsLog (with_next log (r ∷ [])) → IsPoolOf stored_in log pool → IsPoolOf stored_in (with_next log (r ∷ [])) pool
pool_kept stored_in log r pool of valid is =
    let none = changes_none r of in
    subst (λ (pages : List Page). IsPoolOf stored_in (with_next log (r ∷ [])) (record pool { resident = pages }))
    (sym (none_changed pool.resident r none)) (pool_same stored_in log r pool (checkpoint_gives_none r of) none valid is)

noted_same : (table : Table) (r : Record) → IsOfCheckpoint r → noted table r ≡ table
noted_same table (BeginChkpt lsn) of = refl
noted_same table (ChkptPages lsn begin pages) of = refl
noted_same table (ChkptTxns lsn begin txn state last undo) of = refl
noted_same table (EndChkpt lsn begin redo) of = refl
noted_same table other of = absurd of

pub table_kept : (rs : List Record) (r : Record) (table : Table) → IsOfCheckpoint r → MayFollow rs r
    → length rs < MAX_RECORDS → IsTableOf rs table → IsTableOf (rs ++ r ∷ []) table
table_kept rs r table of may few is = record {
  linked = linked_push rs r is.linked may;
  few = omega (arith, length_push rs r);
  made = is.made ∙ sym (table_of_push rs r is.linked may ∙ noted_same (table_of rs) r of);
}
