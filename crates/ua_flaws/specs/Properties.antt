-- What a certificate says of an algebra.
use Rattle.std.specs.Prelude.{◌≡◌, ℕ, List, [], ◌∷◌, length}
use Rattle.ua_table.specs.Algebras.{Vector, FiniteAlgebra, arities_of, power}
use Rattle.ua_table.specs.Terms.{IsTerm, term_value}
use Rattle.ua_table.specs.Generated.{Sg}
use Rattle.ua_table.specs.Listings.{Row, IsClosedListing}
use Rattle.ua_term.specs.Steps.{AreSteps}
use Rattle.ua_cert.specs.declared.certs.CertStep.{CertStep}
use Rattle.ua_flaws.specs.Steps.{origin_of, origins_of, last_term}

-- the steps are steps over the generators, and the term of the last has the target as its value
pub record WritesMember (a : FiniteAlgebra) (gens : List Vector) (steps : List CertStep) (target : Vector) (width : ℕ) : Type 0 where
  pub steps_are : AreSteps (arities_of a) (length gens) (origins_of a steps)
  pub is_term : IsTerm (arities_of a) (length gens) (last_term a steps)
  pub value : term_value (power a width) gens (last_term a steps) ≡ target

-- the target is not in the subuniverse that the generators generate
abbrev pub IsNoMember : FiniteAlgebra → List Vector → Vector → ℕ → Type 0
IsNoMember a gens target width = Sg (power a width) gens target → ⊥

-- rows with their ranks and origins
abbrev pub rows_from : FiniteAlgebra → List Vector → List ℕ → List CertStep → List Row
rows_from a [] ranks origins = []
rows_from a (v ∷ vs) [] origins = []
rows_from a (v ∷ vs) (r ∷ ranks) [] = []
rows_from a (v ∷ vs) (r ∷ ranks) (o ∷ origins) = record { vector = v; rank = r; origin = origin_of a o } ∷ rows_from a vs ranks origins

-- the rows are a closed listing of the subuniverse
abbrev pub ListsAll : FiniteAlgebra → List Vector → List CertStep → List ℕ → List Vector → ℕ → Type 0
ListsAll a gens origins ranks rows width = IsClosedListing (power a width) gens (length rows) (rows_from a rows ranks origins)
