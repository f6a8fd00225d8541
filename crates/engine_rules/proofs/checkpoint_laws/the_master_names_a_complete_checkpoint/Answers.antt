use Rattle.engine_rules.proofs.CkptLaws.{master_has_pages, master_is_complete}
use Rattle.engine_rules.proofs.checkpoint_laws.the_master_names_a_complete_checkpoint.Goals as goal

pub returns-clause-complete : goal.returns-clause-complete
returns-clause-complete c = master_is_complete

pub returns-clause-pages : goal.returns-clause-pages
returns-clause-pages c = master_has_pages
