-- The power in which a condition is decided.
use Rattle.std.proofs.Common.{◌≡◌, ℕ, length}
use Rattle.std.proofs.lemmas.List.{length-replicate}
use Rattle.ua_table.specs.Algebras.{FiniteAlgebra}
use Rattle.ua_identity.specs.Conditions.{TermCondition}
use Rattle.ua_identity.specs.Patterns.{all_fillings, patterns_of, condition_power}

-- how many coordinates there are
abbrev pub coordinates : FiniteAlgebra → TermCondition → ℕ
coordinates a c = length (all_fillings a.size (patterns_of c))

pub width_is : (a : FiniteAlgebra) (c : TermCondition) → length (condition_power a c) ≡ coordinates a c
width_is a c = length-replicate (coordinates a c) a
