-- The type of a subtrace.
use Rattle.std.specs.Prelude.{◌≡◌, ◌↔◌, ℕ, Bool, IsTrue, ◌&&◌, ◌||◌, if◌then◌else◌, List, [], ◌∷◌, ◌++◌, replicate}
use Rattle.ua_table.specs.Algebras.{Vector, FiniteAlgebra}
use Rattle.ua_table.specs.Generated.{Sg}
use Rattle.ua_type.specs.Subtraces.{constants, Generates}

-- the constants of the fourth power of b, and (x,x,y,y) and (x,y,x,y)
abbrev pub square_generators : FiniteAlgebra → ℕ → ℕ → List Vector
square_generators b x y = constants 4 b ++ (x ∷ x ∷ y ∷ y ∷ []) ∷ (x ∷ y ∷ x ∷ y ∷ []) ∷ []

-- these generate the square
abbrev pub GeneratesSquare : FiniteAlgebra → ℕ → ℕ → Vector → Type 0
GeneratesSquare b x y square = Sg (replicate 4 b) (square_generators b x y) square

-- 3 (Boolean) with a swap and a meet or a join; without a swap 4 (lattice) with both and 5 (semilattice) with one of them; with neither 2 (affine) or 1 (unary)
abbrev pub type_number : Bool → Bool → Bool → Bool → ℕ
type_number swap meet join affine = if meet || join then (if swap then 3 else (if meet && join then 4 else 5)) else (if affine then 2 else 1)

-- the type of (x,y), by whether (y,x) is one of its pairs, and (x,x,x,y), (x,y,y,y) and some (x,y,y,z) are among its squares
pub record HasType (b : FiniteAlgebra) (x y number : ℕ) : Type 0 where
  pub swap : Bool
  pub meet : Bool
  pub join : Bool
  pub affine : Bool
  pub swaps : IsTrue swap ↔ Generates b x y y x
  pub meets : IsTrue meet ↔ GeneratesSquare b x y (x ∷ x ∷ x ∷ y ∷ [])
  pub joins : IsTrue join ↔ GeneratesSquare b x y (x ∷ y ∷ y ∷ y ∷ [])
  pub is_affine : IsTrue affine ↔ ((z : ℕ) × GeneratesSquare b x y (x ∷ y ∷ y ∷ z ∷ []))
  pub number_is : number ≡ type_number swap meet join affine
