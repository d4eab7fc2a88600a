-- What certificates of chains say, and their flaws: what private functions say.
use Rattle.std.specs.Prelude.{ℕ, ◌<◌, ◌≤◌, Option, List, [], ◌∷◌, length}
use Rattle.ua_table.specs.Algebras.{Vector, FiniteAlgebra, arities_of}
use Rattle.ua_table.specs.Refusals.{first_refusal}
use Rattle.ua_table.specs.declared.origins.Origin.{Origin}
use Rattle.ua_term.specs.Steps.{AreSteps}
use Rattle.ua_identity.specs.Chains.{ChainKind}
use Rattle.ua_flaws.specs.declared.flaws.Flaw.{Flaw}
use Rattle.ua_check.specs.Reached.{odd_positions, reached_flaw, sides_flaw}

-- the steps of a term of three places, of which there are some, and at most so many
pub record AreStepsWithin (a : FiniteAlgebra) (most : ℕ) (list : List Origin) : Type 0 where
  pub some : 0 < length list
  pub few : length list ≤ most
  pub steps : AreSteps (arities_of a) 3 list

-- the first flaw of the positions of rows, those at even and those at odd indices: by themselves, and then of what is reached
abbrev pub both_positions_flaw : FiniteAlgebra → ChainKind → List Vector → List ℕ → List ℕ → Option Flaw
both_positions_flaw a kind rows even odd = first_refusal (sides_flaw kind (length rows) even odd ∷ reached_flaw a kind rows even (odd_positions kind even odd) ∷ [])
