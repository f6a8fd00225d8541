use Rattle.std.proofs.Common.{◌≡◌, ◌∷◌, ℕ, List}
use Rattle.folder_reports.proofs.copy_chain.chain_of.Given as goal

abbrev pub invariant-loop : goal.invariant-loop
invariant-loop l = (rest : List ℕ) × (l.chain.items ≡ l.id ∷ rest)
