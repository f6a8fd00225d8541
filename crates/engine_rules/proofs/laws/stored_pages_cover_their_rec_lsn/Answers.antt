use Rattle.engine_rules.proofs.PageLaws.{clean_is_stored, rec_lsn_is_covered}
use Rattle.engine_rules.proofs.laws.stored_pages_cover_their_rec_lsn.Goals as goal

pub returns-clause-dirty : goal.returns-clause-dirty
returns-clause-dirty c = rec_lsn_is_covered

pub returns-clause-clean : goal.returns-clause-clean
returns-clause-clean c = clean_is_stored
