use Rattle.manifest.specs.Sums.{SumsGiven}
use Rattle.manifest.proofs.sums.sum_rest.Given as goal

abbrev pub invariant-turns : goal.invariant-turns
invariant-turns g l =
    SumsGiven (g.R.Read.remaining l.fn.reader) (g.R.Read.remaining l.reader) l.sums
