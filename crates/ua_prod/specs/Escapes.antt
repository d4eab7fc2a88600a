-- Escapes: why a set of elements is no subuniverse.
use Rattle.std.specs.Prelude.{◌≡◌, ◌≢◌, ℕ, ◌<◌, List, ◌∷◌, length, take, slice_index, Contains}
use Rattle.std.specs.List.{AllByRecursion}
use Rattle.std.specs.Cmp.Lexicographic.{slice_cmp}
use Rattle.std.specs.Ordering.{nat_cmp}
use Rattle.std.specs.declared.cmp.Ordering.TheVariants.{Greater}
use Rattle.ua_table.specs.Algebras.{FiniteAlgebra, arities_of, value_at}
use Rattle.ua_table.specs.Origins.{IsApplication}

-- each operation takes members of the set to a member
abbrev pub IsClosed : FiniteAlgebra → List ℕ → Type 0
IsClosed a set = (f : ℕ) (xs : List ℕ) → f < length (arities_of a) → length xs ≡ slice_index (arities_of a) f → AllByRecursion (Contains set) xs → Contains set (value_at a f xs)

-- the arguments at the places of an operation
abbrev pub arguments_at : FiniteAlgebra → ℕ → List ℕ → List ℕ
arguments_at a op args = take (slice_index (arities_of a) op) args

-- the operation takes these arguments, which are members, to what is none
pub record IsEscape (a : FiniteAlgebra) (set : List ℕ) (op : ℕ) (args : List ℕ) : Type 0 where
  pub application : IsApplication (arities_of a) a.size op args
  pub members : AllByRecursion (Contains set) (arguments_at a op args)
  pub outside : ¬ Contains set (value_at a op (arguments_at a op args))

-- an escape, and none is before it, by operation and then by arguments
pub record IsFirstEscape (a : FiniteAlgebra) (set : List ℕ) (op : ℕ) (args : List ℕ) : Type 0 where
  pub escape : IsEscape a set op args
  pub first : (g : ℕ) (xs : List ℕ) → IsEscape a set g xs → slice_cmp nat_cmp (op ∷ args) (g ∷ xs) ≢ Greater

-- there is a first escape
pub record HasFirstEscape (a : FiniteAlgebra) (set : List ℕ) : Type 0 where
  pub op : ℕ
  pub args : List ℕ
  pub is : IsFirstEscape a set op args
