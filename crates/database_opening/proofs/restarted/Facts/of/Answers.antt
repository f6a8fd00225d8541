use Rattle.std.proofs.Common.{◌∙◌, ◌↔◌, inl, inr, IsTrue, List, not, refl, subst, sym, true≢false}
use Rattle.fuzzy_ckpt.specs.LogCheckpoints.{IsLastPoint}
use Rattle.log_records.specs.Log.{IsLog, Log}
use Rattle.log_records.specs.declared.record.Record.{Record}
use Rattle.database_files.specs.Master.{IsOfRecords, IsUnnamed, spelled}
use Rattle.database_files.proofs.Public.{told_not}
use Rattle.database_opening.proofs.Resumed.{open_count}
use Rattle.database_opening.proofs.restarted.Facts.of.Goals as goal
use Rattle.database_opening.proofs.restarted.Facts.of.Goals.{then-names, else-names}

pub returns-clause-open : goal.returns-clause-open
returns-clause-open c =
    open_count c.args.front.now.log c.analysis-2.result.now c.open_count.result c.analysis-2.ensures
    c.open_count.ensures

pub returns-clause-unnamed : goal.returns-clause-unnamed
returns-clause-unnamed c =
    let log = c.args.front.now.log in
    let master = spelled c.args.master.now in
    let last : IsLastPoint log log.records c.of.result.last =
    c.of.ensures.last log c.analysis.ensures (subst IsLog c.log-log.ensures.log c.records.ensures.valid) in
    elim c.if-names.branch [
      | then-names w ↦ subst (IsUnnamed log master) (sym w.result-is) (record {
        last = c.of.result.last;
        is_last = last;
        either = inl (c.names.ensures.0 w.if-names.true, refl);
      })
      | else-names w ↦ subst (IsUnnamed log master) (sym w.result-is) (record {
        last = c.of.result.last;
        is_last = last;
        either = inr (λ named. true≢false (sym (c.names.ensures.1 named) ∙ w.if-names.false), refl);
      })
    ]

pub returns-clause-wrong : goal.returns-clause-wrong
returns-clause-wrong c =
    let found = c.args.master.now in
    let told = c.is_of.result in
    let log = c.log-log.result.now in
    subst (λ (it : Log). IsTrue (not told) ↔ (¬ IsOfRecords it.records found)) c.log-log.ensures.log
    (told_not told (IsOfRecords log.records found)
    (subst (λ (records : List Record). IsTrue told ↔ IsOfRecords records found) c.records.ensures.records c.is_of.ensures))
