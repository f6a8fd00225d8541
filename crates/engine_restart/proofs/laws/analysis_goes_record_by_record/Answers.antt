use Rattle.std.proofs.Common.{◌≡◌, ◌∙◌, ◌+◌, ◌<◌, ℕ, List, ap, get_or, length, take}
use Rattle.std.proofs.lemmas.List.{get_or_default}
use Rattle.log_records.specs.declared.record.Record.{Record}
use Rattle.log_rules.specs.Table.{table_of}
use Rattle.log_rules.proofs.Public.{linked-take, may_note, table_of_push}
use Rattle.txn_table.proofs.Public.{next_follows, with_next}
use Rattle.engine_restart.proofs.laws.analysis_goes_record_by_record.Goals as goal

-- a record that is there is found whatever stands for one that is not
there : (records : List Record) (i : ℕ) (d : Record) → i < length records
    → get_or records i d ≡ get_or records i (get_or records i d)
there records i d lt = get_or_default records i d (get_or records i d) lt

pub returns-clause-may : goal.returns-clause-may
returns-clause-may c = λ records i d linked lt.
    let r = get_or records i d in
    may_note (take i records) r (next_follows records i r linked lt (there records i d lt))

pub returns-clause-table : goal.returns-clause-table
returns-clause-table c = λ records i d linked lt.
    let r = get_or records i d in
    let at = there records i d lt in
    ap table_of (with_next records i r lt at)
    ∙ table_of_push (take i records) r (linked-take records linked i) (next_follows records i r linked lt at)
