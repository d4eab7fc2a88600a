-- What is found of flaws, operation by operation.
use Rattle.std.specs.Prelude.{◌≡◌, ◌≢◌, ℕ, List}
use Rattle.std.specs.Cmp.Lexicographic.{slice_cmp}
use Rattle.std.specs.Ordering.{nat_cmp}
use Rattle.std.specs.declared.cmp.Ordering.TheVariants.{Greater}
use Rattle.ua_table.specs.Algebras.{FiniteAlgebra}
use Rattle.ua_sub.specs.declared.flaws.HomFlaw.{HomFlaw}
use Rattle.ua_sub.specs.Flaws.{IsFlaw}

-- operation f has no flaw
abbrev pub NoFlawOf : FiniteAlgebra → FiniteAlgebra → List ℕ → ℕ → Type 0
NoFlawOf a b images f = (other : HomFlaw) → IsFlaw a b images other → other.op ≡ f → ⊥

-- the first flaw of operation f
pub record IsFirstOf (a b : FiniteAlgebra) (images : List ℕ) (f : ℕ) (flaw : HomFlaw) : Type 0 where
  pub is_flaw : IsFlaw a b images flaw
  pub op_is : flaw.op ≡ f
  pub first : (other : HomFlaw) → IsFlaw a b images other → other.op ≡ f → slice_cmp nat_cmp flaw.args other.args ≢ Greater
