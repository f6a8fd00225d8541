use Rattle.engine_rules.proofs.CkptLaws.{end_says, gather_says, open_says}
use Rattle.engine_rules.proofs.checkpoint_laws.the_log_says_which_checkpoint_is_open.Goals as goal

pub returns : goal.returns
returns c = record { begin = open_says; gather = gather_says; end = end_says }
