-- What a search for all congruences answers.
use Rattle.std.specs.Prelude.{ℕ}
use Rattle.ua_table.specs.Algebras.{FiniteAlgebra}
use Rattle.ua_lattice.specs.declared.lattice.Lattice.{Lattice}
use Rattle.ua_lattice.specs.declared.lattice.Lattice.TheVariants.{Whole, Exceeds}
use Rattle.ua_lattice.specs.Lattices.{IsWholeLattice, IsExceedingList}

-- all congruences, or one more than the budget
abbrev pub IsLatticeOf : FiniteAlgebra → ℕ → Lattice → Type 0
IsLatticeOf a budget (Whole list covers irreducibles) = IsWholeLattice a budget list.items covers.items irreducibles.items
IsLatticeOf a budget (Exceeds list) = IsExceedingList a budget list.items

-- there is an answer
pub record HasLattice (a : FiniteAlgebra) (budget : ℕ) : Type 0 where
  pub lattice : Lattice
  pub is : IsLatticeOf a budget lattice
