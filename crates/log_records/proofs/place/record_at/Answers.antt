use Rattle.std.proofs.Common.{◌∙◌, rules, sym, subst, true≢false}
use Rattle.std.specs.Prelude.{Option, IfSome}
use Rattle.log_records.specs.declared.record.Record.{Record}
use Rattle.log_records.specs.Log.{IsOfFormat, IsWithin}
use Rattle.log_records.specs.Record.{SpellsRecord}
use Rattle.log_records.proofs.place.record_at.Goals as goal
use Rattle.log_records.proofs.place.record_at.Goals.{else-is_within-via-then-is_within+else-is_of_format}
use Rattle.log_records.proofs.place.record_at.Goals.{else-is_within-via-else-is_within}

pub returns-then-is_of_format-clause-only : goal.returns-then-is_of_format-clause-only
returns-then-is_of_format-clause-only c = λ r stands of e.
    c.in_ok-record.ensures.only r stands.lsn (record { valid = stands.valid; spelled = search rules })

pub returns-else-is_within-clause-only : goal.returns-else-is_within-clause-only
returns-else-is_within-clause-only c = λ r stands of e.
    let spelled : SpellsRecord r c.unwrap.result.now = record { valid = stands.valid; spelled = search rules } in
    let same = c.in_ok-record.ensures.only r stands.lsn spelled in
    let within : IsWithin c.args.pages c.in_ok-record.record =
    subst (λ (o : Option Record). IfSome o (IsWithin c.args.pages)) (sym same) stands.within in
    let format : IsOfFormat c.args.format c.in_ok-record.record =
    subst (λ (o : Option Record). IfSome o (IsOfFormat c.args.format)) (sym same) of in
    elim c.else-is_within.branch [
      | else-is_within-via-then-is_within+else-is_of_format w ↦
          absurd (true≢false (sym (w.if-is_of_format.ensures.1 format)))
      | else-is_within-via-else-is_within w ↦ absurd (true≢false (sym (w.if-is_within.ensures.1 within)))
    ]
