-- Whether images of generators go on to a homomorphism: the pairs that they generate.
use Rattle.std.specs.Prelude.{◌≡◌, ◌≢◌, ℕ, ◌+◌, ◌<◌, ◌≤◌, IsTrue, List, [], ◌∷◌, length, map, zip, Contains, ◌↔◌, slice_get, slice_index_or, Some}
use Rattle.ua_table.specs.Algebras.{FiniteAlgebra, Product, Vector, IsIncreasing, arities}
use Rattle.ua_table.specs.Generated.{Sg}
use Rattle.ua_table.specs.Listings.{Row, vectors_of, IsListing, IsExceedingListing}
use Rattle.ua_table.specs.Orders.{IsSerialListing}
use Rattle.ua_term.specs.Steps.{StepList}
use Rattle.ua_work.specs.Goals.{clashes, has_clash}
use Rattle.ua_close.specs.Memberships.{AreStepsTo}
use Rattle.ua_close.specs.Needed.{rank_at, AreStepsFor}
use Rattle.ua_sub.specs.declared.homs.Hom.{Hom}
use Rattle.ua_sub.specs.declared.homs.Hom.TheVariants.{Map, Clash, Exceeds}

-- the product of two algebras
abbrev pub both : FiniteAlgebra → FiniteAlgebra → Product
both a b = a ∷ b ∷ []

-- a pair as a vector of two coordinates
abbrev pub two : ℕ × ℕ → Vector
two x = x.0 ∷ x.1 ∷ []

-- each generator with its image
abbrev pub with_images : List ℕ → List ℕ → List Vector
with_images gens images = map two (zip gens images)

-- no element has two images among the pairs that are generated
abbrev pub IsGraph : Product → List Vector → Type 0
IsGraph p gens = (x y z : ℕ) → Sg p gens (two (x, y)) → Sg p gens (two (x, z)) → y ≡ z

-- exactly the pairs that are generated, ascending, at most as many as the budget: the graph of a function
pub record IsMap (p : Product) (gens : List Vector) (b : ℕ) (pairs : List (ℕ × ℕ)) : Type 0 where
  pub ascending : IsIncreasing (map two pairs)
  pub exact : (v : Vector) → Contains (map two pairs) v ↔ Sg p gens v
  pub within : length pairs ≤ b
  pub graph : IsGraph p gens

-- so are these of the generators, each with its image
abbrev pub IsMapOf : FiniteAlgebra → FiniteAlgebra → List ℕ → List ℕ → ℕ → List (ℕ × ℕ) → Type 0
IsMapOf a b gens images n pairs = IsMap (both a b) (with_images gens images) n pairs

-- steps to two pairs that give x the images y and z, which differ
pub record IsPairClash (p : Product) (gens : List Vector) (x y z : ℕ) (first second : StepList) : Type 0 where
  pub apart : y ≢ z
  pub first_steps : AreStepsTo p gens (two (x, y)) first
  pub second_steps : AreStepsTo p gens (two (x, z)) second

-- a listing of one pair more than the budget, no two of which clash
pub record IsExceedingGraph (p : Product) (gens : List Vector) (b : ℕ) (rows : List Row) : Type 0 where
  pub listing : IsExceedingListing p gens b rows
  pub graph : ¬ IsTrue (has_clash (vectors_of rows))

-- a map, a clash, or pairs beyond the budget without one
abbrev pub Maps : Product → List Vector → ℕ → Hom → Type 0
Maps p gens b (Map pairs) = IsMap p gens b pairs
Maps p gens b (Clash x y z first second) = IsPairClash p gens x y z first second
Maps p gens b Exceeds = (rows : List Row) × IsExceedingGraph p gens b rows

-- the vector of the row at a position
abbrev pub vector_at : List Row → ℕ → Vector
vector_at rows i = slice_index_or (vectors_of rows) i []

-- the rows at i and j clash, and that at j was found later
pub record ClashInOrder (rows : List Row) (i j : ℕ) : Type 0 where
  pub earlier_within : i < length rows
  pub later_within : j < length rows
  pub order : rank_at rows i < rank_at rows j
  pub clash : IsTrue (clashes (vector_at rows i) (vector_at rows j))

-- of all pairs of rows that clash, the one whose later row was found first
pub record IsFirstPairClash (rows : List Row) (i j : ℕ) : Type 0 where
  pub clash : ClashInOrder rows i j
  pub first : (k l : ℕ) → ClashInOrder rows k l → rank_at rows j ≤ rank_at rows l

-- the element and its images are those of the first clash of these rows, that of the smaller rank first, and the steps are those of its rows
pub record IsListedClash (ks : List ℕ) (rows : List Row) (x y z : ℕ) (first second : StepList) : Type 0 where
  pub earlier : ℕ
  pub later : ℕ
  pub clash : IsFirstPairClash rows earlier later
  pub stands : slice_get (vectors_of rows) earlier ≡ Some (two (x, y))
  pub stands_later : slice_get (vectors_of rows) later ≡ Some (two (x, z))
  pub first_steps : AreStepsFor ks rows earlier first.items
  pub second_steps : AreStepsFor ks rows later second.items

-- so in a listing of one worker
pub record IsSerialClash (p : Product) (gens : List Vector) (b : ℕ) (x y z : ℕ) (first second : StepList) : Type 0 where
  pub rows : List Row
  pub listing : IsListing p gens rows
  pub count : length rows ≤ b + 1
  pub serial : IsSerialListing p gens rows
  pub clash : IsListedClash (arities p) rows x y z first second

-- the answer of one worker
abbrev pub IsSerialHom : Product → List Vector → ℕ → Hom → Type 0
IsSerialHom p gens b (Map pairs) = Unit {0}
IsSerialHom p gens b (Clash x y z first second) = IsSerialClash p gens b x y z first second
IsSerialHom p gens b Exceeds = (rows : List Row) × IsExceedingGraph p gens b rows × IsSerialListing p gens rows
