use Rattle.std.proofs.Common.{ap, ◌∙◌}
use Rattle.std.specs.Prelude.{Some}
use Rattle.std.proofs.lemmas.Option.{slice_get-get_or}
use Rattle.log_records.specs.declared.record.Record.TheVariants.{BeginChkpt}
use Rattle.loser_undo.proofs.Begins.{place_of_begin, tail_from}
use Rattle.loser_undo.proofs.tail.complete_checkpoints_begin_tails.Goals as goal

pub returns-clause-place : goal.returns-clause-place
returns-clause-place c = λ log begin end valid complete.
    let place = place_of_begin log begin end valid complete in
    (place.0, place.3, slice_get-get_or log.records place.0 (BeginChkpt begin) place.1 ∙ ap Some place.2)

pub returns-clause-tail : goal.returns-clause-tail
returns-clause-tail c = tail_from
