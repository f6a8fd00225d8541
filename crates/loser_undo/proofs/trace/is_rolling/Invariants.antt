use Rattle.std.proofs.Common.{ℕ, List}
use Rattle.log_rules.specs.Transactions.{is_rolling}
use Rattle.loser_undo.specs.Losers.{LeadsToAbort}
use Rattle.loser_undo.proofs.trace.is_rolling.Given as goal

abbrev pub invariant-comps : goal.invariant-comps
invariant-comps l =
    (comps : List ℕ) × LeadsToAbort l.log.records (is_rolling l.log.records l.one.txn) l.at comps

abbrev pub decreases-comps : goal.decreases-comps
decreases-comps l = l.at
