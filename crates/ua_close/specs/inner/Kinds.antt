-- How much room a budget wants.
use Rattle.std.specs.Prelude.{◌≡◌, ℕ, ◌≤◌, ◌⊎◌}
use Rattle.ua_table.specs.Algebras.{Product}
use Rattle.ua_close.specs.Kinds.{cardinality}

-- room for n records serves a budget of b: it is the budget, or within it as many as the product has vectors
pub record IsEnough (p : Product) (b n : ℕ) : Type 0 where
  pub within : n ≤ b
  pub all : (n ≡ b) ⊎ (cardinality p ≤ n)
