-- Homomorphisms, and why a map is none.
use Rattle.std.specs.Prelude.{◌≡◌, ◌≢◌, ℕ, ◌<◌, List, ◌∷◌, length, map, take, slice_index}
use Rattle.std.specs.List.{AllByRecursion}
use Rattle.std.specs.Cmp.Lexicographic.{slice_cmp}
use Rattle.std.specs.Ordering.{nat_cmp}
use Rattle.std.specs.declared.cmp.Ordering.TheVariants.{Greater}
use Rattle.ua_table.specs.Algebras.{FiniteAlgebra, arities_of, value_at}
use Rattle.ua_table.specs.Origins.{IsApplication}
use Rattle.ua_sub.specs.declared.flaws.HomFlaw.{HomFlaw}

-- the images of these elements
abbrev pub images_of : List ℕ → List ℕ → List ℕ
images_of images args = map (slice_index images) args

-- operation f at these elements of a has as image the value of operation f of b at their images
abbrev pub GoesWith : FiniteAlgebra → FiniteAlgebra → List ℕ → ℕ → List ℕ → Type 0
GoesWith a b images f args = slice_index images (value_at a f args) ≡ value_at b f (images_of images args)

-- the map goes with each operation at all elements of a
abbrev pub IsHom : FiniteAlgebra → FiniteAlgebra → List ℕ → Type 0
IsHom a b images = (f : ℕ) (args : List ℕ) → f < length (arities_of a) → length args ≡ slice_index (arities_of a) f → AllByRecursion (λ x. x < a.size) args → GoesWith a b images f args

-- the arguments of a flaw
abbrev pub arguments_in : FiniteAlgebra → HomFlaw → List ℕ
arguments_in a flaw = take (slice_index (arities_of a) flaw.op) flaw.args

-- an operation of a and arguments at which the map does not go with it
pub record IsFlaw (a b : FiniteAlgebra) (images : List ℕ) (flaw : HomFlaw) : Type 0 where
  pub application : IsApplication (arities_of a) a.size flaw.op flaw.args
  pub apart : ¬ GoesWith a b images flaw.op (arguments_in a flaw)

-- by operation, and then by arguments
abbrev pub spelled : HomFlaw → List ℕ
spelled flaw = flaw.op ∷ flaw.args

-- a flaw, and none is before it
pub record IsFirstFlaw (a b : FiniteAlgebra) (images : List ℕ) (flaw : HomFlaw) : Type 0 where
  pub is_flaw : IsFlaw a b images flaw
  pub first : (other : HomFlaw) → IsFlaw a b images other → slice_cmp nat_cmp (spelled flaw) (spelled other) ≢ Greater
