use Rattle.std.proofs.Common.{List, ℕ, Bor}
use Rattle.command_words.proofs.NearestLemmas.{BestOf}
use Rattle.command_words.proofs.command.nearest.Given as goal

abbrev pub invariant-loop-name : goal.invariant-loop-name
invariant-loop-name l = BestOf (Bor (List ℕ)) (λ name. name.now) l.word l.best l.least l.name-index
