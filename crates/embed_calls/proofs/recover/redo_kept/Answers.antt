use Rattle.std.proofs.Common.{◌≡◌, ◌∙◌, ap, arith, length, subst, sym}
use Rattle.log_records.specs.Log.{Log}
use Rattle.embed_calls.specs.declared.outcome.Outcome.{Outcome}
use Rattle.embed_calls.specs.Calls.{IsLogOf}
use Rattle.embed_calls.specs.Recovered.{MayUndo, is_full}
use Rattle.embed_calls.proofs.Undoing.{total}
use Rattle.embed_calls.proofs.recover.redo_kept.Goals as goal

pub overflow_add-records : goal.overflow_add-records
overflow_add-records c =
    let found = c.in-Ok.ensures.found in
    let log = found.0 in
    let right : IsLogOf c.args.log.now log = record { spells = found.1.1.1.1.1.1.1; linked = found.1.1.1.1.1.0 } in
    let all = total c.args.log.now log c.in-Ok.field-0.losers c.owed.result right found.1.1.1.0 c.owed.ensures in
    let long : length c.records.result.now ≡ length log.records =
    ap length (c.records.ensures.records ∙ ap (λ (l : Log). l.records) found.1.1.0) in
    omega (arith, all.few, long)

pub returns-then-records-owed-clause-err : goal.returns-then-records-owed-clause-err
returns-then-records-owed-clause-err c =
    let found = c.in-Ok.ensures.found in
    let log = found.0 in
    let right : IsLogOf c.args.log.now log = record { spells = found.1.1.1.1.1.1.1; linked = found.1.1.1.1.1.0 } in
    let all = total c.args.log.now log c.in-Ok.field-0.losers c.owed.result right found.1.1.1.0 c.owed.ensures in
    let long : length c.records.result.now ≡ length log.records =
    ap length (c.records.ensures.records ∙ ap (λ (l : Log). l.records) found.1.1.0) in
    let code : c.numbered.result.code ≡ 8 = ap (λ (o : Outcome). o.code) c.numbered.ensures in (
      λ e. absurd (omega arith),
      λ e. absurd (omega arith),
      is_full log right c.numbered.ensures
          (omega (arith, all.is, long, c.if-records-owed.true)),
    )

pub returns-in-Ok-clause-ok : goal.returns-in-Ok-clause-ok
returns-in-Ok-clause-ok c =
    let found = c.in-Ok.ensures.found in
    let log = found.0 in
    let right : IsLogOf c.args.log.now log = record { spells = found.1.1.1.1.1.1.1; linked = found.1.1.1.1.1.0 } in
    let all = total c.args.log.now log c.in-Ok.field-0.losers c.owed.result right found.1.1.1.0 c.owed.ensures in
    let long : length c.records.result.now ≡ length log.records =
    ap length (c.records.ensures.records ∙ ap (λ (l : Log). l.records) found.1.1.0) in
    subst (λ (l : Log). MayUndo c.args.log.now l c.in-Ok.field-0.losers c.in-Ok.field-0.pages.items) (sym found.1.1.0)
    (record {
      of_log = right;
      still_open = found.1.1.1.0;
      made = found.1.1.1.1.0;
      room = omega (arith, all.is, long, c.if-records-owed.false);
    })
