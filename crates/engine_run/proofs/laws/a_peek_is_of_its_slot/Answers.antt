use Rattle.engine_run.proofs.Peeks.{peek_page, peek_slot}
use Rattle.engine_run.proofs.laws.a_peek_is_of_its_slot.Goals as goal

pub returns : goal.returns
returns c = record { page = peek_page; slot = peek_slot }
