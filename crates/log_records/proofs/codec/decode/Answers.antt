use Rattle.std.proofs.Common.{◌∙◌, ap, sym, rules}
use Rattle.std.specs.Prelude.{Some}
use Rattle.log_records.proofs.Records.{lsn_is, of_fields_alone, same_record}
use Rattle.log_records.specs.Fields.{fields_bytes}
use Rattle.log_records.proofs.codec.decode.Goals as goal

pub returns-then-fields-at-clause-only : goal.returns-then-fields-at-clause-only
returns-then-fields-at-clause-only c = λ r own spells.
    let same = sym c.read-fields.ensures.found ∙ spells.spelled in
    let lsn = lsn_is r c.read-fields.result spells.valid (search rules) same in
    absurd (c.if-fields-at.true (lsn ∙ own ∙ sym c.at.view_is))

pub returns-in-Some-clause-only : goal.returns-in-Some-clause-only
returns-in-Some-clause-only c = λ r own spells.
    let found = c.in-Some.ensures.found in
    let s = c.in-Some.record in
    let same = of_fields_alone s found.0 ∙ ap fields_bytes found.2 ∙ sym c.read-fields.ensures.found ∙ spells.spelled in
    ap Some (same_record s r found.1 spells.valid same)
