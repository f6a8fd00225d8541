use Rattle.std.proofs.Common.{ℕ, ap, length, subst, sym, ◌∙◌}
use Rattle.log_rules.specs.Table.{Table}
use Rattle.log_rules.specs.Transactions.{begun}
use Rattle.fuzzy_ckpt.specs.LogCheckpoints.{AreCheckpointsOf}
use Rattle.log_records.specs.Image.{redo_all}
use Rattle.log_records.specs.Log.{Log, page_count}
use Rattle.engine_restart.proofs.Restarts.{all_committed, restarted_alone}
use Rattle.engine_restart.proofs.UndoneFacts.{undone_begun, undone_checkpoints}
use Rattle.engine_restart.proofs.from_log.restart.Goals as goal

pub invariant_of-restarted : goal.invariant_of-restarted
invariant_of-restarted g c =
    let back = c.take_back.ensures in
    let front = c.args.front.log in
    let found = c.analysis-found.ensures in
    let are : AreCheckpointsOf front c.of-checkpoints.result = record {
      last = c.of-checkpoints.ensures.last front found back.valid;
      begun = c.of-checkpoints.ensures.«open» front found back.valid;
    } in
    record {
      restarted = restarted_alone front c.in_ok-log.log c.in_ok-log.pages.items c.new.result.copies
          back.valid back.linked c.in_ok-log.ensures.undone c.in_ok-log.ensures.pages c.new.ensures;
      checkpoints = subst (λ (l : Log). AreCheckpointsOf l c.of-checkpoints.result) (sym c.in_ok-log.ensures.undone)
          (undone_checkpoints front c.of-checkpoints.result are);
      begun = c.begun-begun.ensures ∙ ap (λ (t : Table). t.begun) found.txns
          ∙ ap (length {A = ℕ}) (sym (undone_begun front.records))
          ∙ ap (λ (l : Log). length (begun l.records)) (sym c.in_ok-log.ensures.undone);
    }

pub returns-clause-restarted : goal.returns-clause-restarted
returns-clause-restarted g c = (invariant_of-restarted g c).restarted

pub returns-clause-committed : goal.returns-clause-committed
returns-clause-committed g c =
    let back = c.take_back.ensures in
    all_committed c.args.front.log c.in_ok-log.pages.items back.valid back.linked
    (c.in_ok-log.ensures.pages ∙ ap (λ (l : Log). redo_all l.records (page_count l)) c.in_ok-log.ensures.undone)
