use Rattle.copy_vault.proofs.ChainEnds.{redo_at_last}
use Rattle.copy_vault.proofs.chain_reader.redo_of_last.Goals as goal

pub returns : goal.returns
returns c = redo_at_last c.args.cursors.now c.index-cursors-cursors.result c.requires
