use Rattle.std.proofs.Common.{not, eqb, rules}
use Rattle.std.proofs.lemmas.Fn.{filter_same}
use Rattle.loser_undo.specs.declared.tail.OpenTxn.{OpenTxn}
use Rattle.loser_undo.proofs.tail.take_out.Goals as goal

pub returns : goal.returns
returns c =
    filter_same _ (λ (o : OpenTxn). not (eqb o.txn c.args.txn)) _ (λ x b f' k. search rules) _ _
    c.retain.ensures.filtered
