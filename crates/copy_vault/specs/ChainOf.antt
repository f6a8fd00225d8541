-- A chain of a vault's copies.
use Rattle.std.specs.Prelude.{ℕ, ◌≡◌, List, [], ◌∷◌, ◌++◌}
use Rattle.std.specs.List.{AllByRecursion}
use Rattle.copy_vault.specs.Copy.{CopyView}
use Rattle.copy_vault.specs.Vault.{CopyState, complete, state_of}

-- the members are copies of a vault, and the last one is that of this id
pub record IsChainOf (copies : List CopyState) (id : ℕ) (members : List CopyView) : Type 0 where
  pub before : List CopyView
  pub last : CopyView
  pub is : members ≡ before ++ last ∷ []
  pub of_id : state_of copies id ≡ complete last
  pub of_vault : AllByRecursion (λ copy. state_of copies copy.id ≡ complete copy) members
