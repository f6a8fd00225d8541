use Rattle.database_files.proofs.Public.{finished_more}
use Rattle.database_backup.proofs.second_folder.clear.Goals as goal

pub returns-in_err-remove_unfinished-clause-kept : goal.returns-in_err-remove_unfinished-clause-kept
returns-in_err-remove_unfinished-clause-kept g c =
    finished_more _ _ _ c.loop-name.invariant.1 c.remove_unfinished.ensures.kept

pub loop-name-preserved : goal.loop-name-preserved
loop-name-preserved g c = (
  c.remove_unfinished.ensures.claimed,
  finished_more _ _ _ c.loop-name.invariant.1 c.remove_unfinished.ensures.kept,
)
