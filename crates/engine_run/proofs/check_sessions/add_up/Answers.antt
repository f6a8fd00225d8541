use Rattle.std.proofs.Common.{◌≡◌, ap, arith, drop, ◌∙◌}
use Rattle.std.specs.List.{sum_by}
use Rattle.settlement.specs.Counts.{written_in, txn_records_in}
use Rattle.settlement.proofs.Public.{txn_records_split}
use Rattle.engine_run.proofs.check_sessions.add_up.Goals as goal

pub returns-clause-yes : goal.returns-clause-yes
returns-clause-yes g c = λ is.
    let rs = c.args.records.now in
    let later : c.txn_record_count.result ≡ txn_records_in (drop c.args.began rs) =
    c.txn_record_count.ensures ∙ ap txn_records_in c.behind.ensures in
    let sum : sum_by written_in c.args.sessions.now ≡ c.txn_record_count.result = c.have_written.ensures.yes is in
    omega (arith, later, sum, txn_records_split c.args.began rs)

pub returns-clause-no : goal.returns-clause-no
returns-clause-no g c = λ is adds.
    let rs = c.args.records.now in
    let later : c.txn_record_count.result ≡ txn_records_in (drop c.args.began rs) =
    c.txn_record_count.ensures ∙ ap txn_records_in c.behind.ensures in
    let same : sum_by written_in c.args.sessions.now ≡ c.txn_record_count.result =
    omega (arith, later, adds, txn_records_split c.args.began rs) in
    c.have_written.ensures.no is same
