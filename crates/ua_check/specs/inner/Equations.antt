-- Terms that steps write, with variables at their places, and equations between two of them: what private functions say.
use Rattle.std.specs.Prelude.{ℕ, ◌<◌, ◌≤◌, List, length, map, take, slice_index}
use Rattle.std.specs.List.{AllByRecursion}
use Rattle.ua_table.specs.declared.origins.Origin.{Origin}
use Rattle.ua_table.specs.declared.origins.Origin.TheVariants.{Gen, Op}
use Rattle.ua_table.specs.Algebras.{FiniteAlgebra, arities_of, value_at}
use Rattle.ua_term.specs.Steps.{AreSteps}
use Rattle.ua_identity.specs.Identities.{TermIdentity}
use Rattle.ua_check.specs.declared.equations.Side.{Side}

-- the element that an origin gives, by those of the generators and of the steps before it
abbrev pub element_of : FiniteAlgebra → List ℕ → List ℕ → Origin → ℕ
element_of a gens values (Gen i) = slice_index gens i
element_of a gens values (Op f args) = value_at a f (map (slice_index values) (take (slice_index (arities_of a) f) args))

-- the identity that a term, with these of so many variables at its places, is one of them
abbrev pub variable_identity : ℕ → List ℕ → ℕ → TermIdentity
variable_identity variables places value = record { pattern = record { variables = variables; places = places }; value = value }

-- a side over so many variables, of at most so many steps
pub record IsSide (a : FiniteAlgebra) (variables most : ℕ) (s : Side) : Type 0 where
  pub some : 0 < length s.steps.now
  pub few : length s.steps.now ≤ most
  pub steps : AreSteps (arities_of a) (length s.places.now) s.steps.now
  pub places : AllByRecursion (λ v. v < variables) s.places.now
