use Rattle.std.proofs.Common.{◌≡◌, Bool, List, [], false, inr, sym, subst, replicate, rules}
use Rattle.std.specs.List.{All}
use Rattle.log_records.specs.declared.record.Record.{Record}
use Rattle.settlement.specs.Receipt.{written}
use Rattle.settlement.specs.Session.{AllStand}
use Rattle.settlement.specs.Sessions.{all_receipts}
use Rattle.engine_run.specs.Given.{AreGiven}
use Rattle.engine_run.proofs.Works.{fresh_ids}
use Rattle.engine_run.proofs.settling.check_answers.Goals as goal

pub check_works-requires-clause-none : goal.check_works-requires-clause-none
check_works-requires-clause-none g c =
    let fresh : c.deref_mut-2.result.now ≡ replicate 1025 false = search rules in
    subst (λ (given : List Bool). AreGiven given []) (sym fresh) (fresh_ids 1025)

pub returns-in-Err-check_works-clause-err : goal.returns-in-Err-check_works-clause-err
returns-in-Err-check_works-clause-err g c =
    inr (
      c.requires.counted,
      inr (inr (c.in-Err-check_works.ensures.err (written (all_receipts c.args.sessions.now))
          c.in_default-check_sessions.ensures.marked)),
    )

pub returns-clause-ok : goal.returns-clause-ok
returns-clause-ok g c = record {
  counted = c.requires.counted;
  newer = c.in_default.ensures.ok;
  new_copies = c.in_default.ensures.copies;
  receipts =
      subst (λ (rs : List Record). All (AllStand rs c.args.forced_end) c.args.sessions.now)
      c.records-records.ensures c.in_default-check_sessions.ensures.ok;
  work = c.in_default-check_works.ensures.ok;
  lsns =
      c.in_default-check_works.ensures.lsns (written (all_receipts c.args.sessions.now))
      c.in_default-check_sessions.ensures.marked;
  copies = c.in_default-check_works.ensures.copies;
}
