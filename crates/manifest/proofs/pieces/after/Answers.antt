use Rattle.std.proofs.lemmas.Slice.Eq.{strip_prefix_is}
use Rattle.std.proofs.lemmas.Bool.Decides.{Decides-eqb}
use Rattle.manifest.proofs.NoPieces.{none_follows, some_follows}
use Rattle.manifest.proofs.pieces.after.Goals as goal

pub returns-clause-found : goal.returns-clause-found
returns-clause-found c =
    some_follows c.args.bytes.now c.args.front.now c.strip_prefix.result
    (strip_prefix_is Decides-eqb c.args.bytes.now c.args.front.now c.strip_prefix.result c.strip_prefix.ensures.cases)

pub returns-clause-none : goal.returns-clause-none
returns-clause-none c =
    none_follows c.args.bytes.now c.args.front.now c.strip_prefix.result
    (strip_prefix_is Decides-eqb c.args.bytes.now c.args.front.now c.strip_prefix.result c.strip_prefix.ensures.cases)
