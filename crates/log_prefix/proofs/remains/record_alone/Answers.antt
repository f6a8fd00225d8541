use Rattle.std.proofs.Common.{◌<◌, ◌+◌, ◌^◌, inl, inr, arith, rules}
use Rattle.log_records.specs.Record.{SpellsRecord}
use Rattle.log_prefix.proofs.Places.{place_of}
use Rattle.log_prefix.proofs.remains.record_alone.Goals as goal

pub returns-in_err-end-clause-only : goal.returns-in_err-end-clause-only
returns-in_err-end-clause-only c = λ r stands.
    let place = place_of c.args.bytes.now c.args.at r stands in
    let fits : c.at.inside.0 + 64 < 2 ^ 64 = omega arith in
    absurd (c.in_err-end.ensures fits)

pub returns-in_err-here-clause-only : goal.returns-in_err-here-clause-only
returns-in_err-here-clause-only c = λ r stands.
    let place = place_of c.args.bytes.now c.args.at r stands in
    elim c.in_err-here.ensures.lookup.0 [
      | inl crossed ↦ absurd (omega arith)
      | inr past ↦ absurd (omega arith)
    ]

pub returns-clause-only : goal.returns-clause-only
returns-clause-only c = λ r stands.
    let spells : SpellsRecord r c.unwrap.result.now =
    record { valid = stands.spells.valid; spelled = search rules } in
    c.decode.ensures.only r stands.lsn spells
