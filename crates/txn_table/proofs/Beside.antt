-- An Extend leaves the table of the log what it is.
use Rattle.std.proofs.Common.{◌≡◌, ℕ, ◌<◌, List, [], ◌∷◌, ◌++◌, length, sym, ◌∙◌, arith}
use Rattle.std.proofs.lemmas.List.{append-nil, length_push}
use Rattle.log_records.specs.declared.limits.TheConstants.{MAX_RECORDS}
use Rattle.log_records.specs.declared.record.Record.{Record}
use Rattle.log_records.specs.declared.record.Record.TheVariants.{Extend}
use Rattle.log_rules.specs.Table.{Table}
use Rattle.log_rules.proofs.Public.{linked_push}
use Rattle.log_rules.proofs.Public.{table_of_push}
use Rattle.txn_table.specs.Returns.{returns_of}
use Rattle.txn_table.specs.TxnTable.{IsTableOf}
use Rattle.txn_table.proofs.Stacks.{returns_push}

pub table_kept : (rs : List Record) (lsn pages : ℕ) (table : Table) → length rs < MAX_RECORDS
    → IsTableOf rs table → IsTableOf (rs ++ Extend lsn pages ∷ []) table
table_kept rs lsn pages table few is =
    let r = Extend lsn pages in
    record {
      linked = linked_push rs r is.linked tt;
      few = omega (arith, length_push rs r);
      made = is.made ∙ sym (table_of_push rs r is.linked tt);
    }

pub returns_kept : (rs : List Record) (lsn pages : ℕ) → returns_of (rs ++ Extend lsn pages ∷ []) ≡ returns_of rs
returns_kept rs lsn pages = returns_push rs (Extend lsn pages) ∙ append-nil (returns_of rs)
