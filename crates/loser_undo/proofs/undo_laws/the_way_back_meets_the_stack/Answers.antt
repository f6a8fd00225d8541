use Rattle.loser_undo.proofs.Stacks.{stacks_are_met}
use Rattle.loser_undo.proofs.undo_laws.the_way_back_meets_the_stack.Goals as goal

pub returns : goal.returns
returns c = stacks_are_met
