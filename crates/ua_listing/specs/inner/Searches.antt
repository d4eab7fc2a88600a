-- The rows of a listing as they are reached, by ascending height.
use Rattle.std.specs.Prelude.{◌≡◌, ◌≢◌, ◌⊎◌, ◌↔◌, ℕ, suc, Bool, true, false, ◌+◌, ◌<◌, ◌≤◌, List, [], ◌∷◌, length, map, slice_get, slice_index, slice_index_or, nat_eq, Some, Contains, ◌++◌}
use Rattle.std.specs.List.{AllByRecursion, IsDistinct}
use Rattle.std.specs.Cmp.Lexicographic.{slice_cmp, pointwise}
use Rattle.std.specs.Ordering.{nat_cmp}
use Rattle.std.specs.declared.cmp.Ordering.TheVariants.{Less, Greater}
use Rattle.ua_table.specs.declared.limits.TheConstants.{BUDGET}
use Rattle.ua_table.specs.declared.origins.Origin.{Origin}
use Rattle.ua_table.specs.declared.origins.Origin.TheVariants.{Gen, Op}
use Rattle.ua_table.specs.Algebras.{Vector, Product, IsProduct, IsVector, arities}
use Rattle.ua_table.specs.Counting.{total, one_if}
use Rattle.ua_table.specs.Numbering.{four_places, IsShape, Fits}
use Rattle.ua_table.specs.Orders.{height_of, spelled}
use Rattle.ua_table.specs.Origins.{IsOrigin, arguments_of, origin_value}
use Rattle.ua_table.specs.Slices.{slice_operation, slice_tuples, bound}
use Rattle.ua_listing.specs.declared.searches.Search.{Search}
use Rattle.ua_listing.specs.declared.searches.Table.{Table}

-- the height and the origin of the row at a position
abbrev pub height_in : Search → ℕ → ℕ
height_in s q = slice_index s.heights.items q

abbrev pub origin_in : Search → ℕ → Origin
origin_in s q = slice_index_or s.origins.items q (Gen 0)

-- the row at this position is marked
abbrev pub IsMarked : List Bool → ℕ → Type 0
IsMarked marks q = slice_index_or marks q false ≡ true

-- the row at a position is reached
abbrev pub IsReached : Search → ℕ → Type 0
IsReached s q = Contains s.order.items q

-- the origin's operation exists
abbrev pub IsNamed : List ℕ → Origin → Type 0
IsNamed ks (Gen i) = Unit {0}
IsNamed ks (Op f args) = f < length ks

-- one origin before another of its kind
abbrev pub IsBefore : List ℕ → Origin → Origin → Type 0
IsBefore ks (Gen i) (Gen j) = i < j
IsBefore ks (Gen i) (Op g others) = ⊥
IsBefore ks (Op f args) (Gen j) = ⊥
IsBefore ks (Op f args) (Op g others) = slice_cmp nat_cmp (spelled ks (Op f args)) (spelled ks (Op g others)) ≡ Less

-- one origin not after another
abbrev pub IsNotAfter : List ℕ → Origin → Origin → Type 0
IsNotAfter ks o other = slice_cmp nat_cmp (spelled ks o) (spelled ks other) ≢ Greater

-- the row at q has its origin, over rows that are reached, at its height
pub record IsFound (p : Product) (gens vs : List Vector) (s : Search) (q : ℕ) : Type 0 where
  pub valid : IsOrigin (arities p) (length gens) (length vs) (origin_in s q)
  pub value : slice_get vs q ≡ Some (origin_value p gens vs (origin_in s q))
  pub reaches : height_in s q ≡ height_of (arities p) s.heights.items (origin_in s q)
  pub arguments : AllByRecursion (IsReached s) (arguments_of (arities p) (origin_in s q))

-- the rows reached, each once, by ascending height, each with an origin at its height
pub record IsSearch (p : Product) (gens vs : List Vector) (s : Search) : Type 0 where
  pub marks_count : length s.reached.items ≡ length vs
  pub heights_count : length s.heights.items ≡ length vs
  pub origins_count : length s.origins.items ≡ length vs
  pub marks : (q : ℕ) → IsMarked s.reached.items q ↔ IsReached s q
  pub once : length s.order.items ≡ total one_if s.reached.items
  pub rising : (i j : ℕ) → i ≤ j → j < length s.order.items → height_in s (slice_index s.order.items i) ≤ height_in s (slice_index s.order.items j)
  pub low : (i : ℕ) → i < length s.order.items → height_in s (slice_index s.order.items i) ≤ i + 1
  pub found : (q : ℕ) → IsReached s q → IsFound p gens vs s q

-- a row is reached below this height, or at it by an origin that is not after this one
pub record IsNear (ks : List ℕ) (s : Search) (h : ℕ) (o : Origin) (q : ℕ) : Type 0 where
  pub reached : IsReached s q
  pub near : (height_in s q < h) ⊎ ((height_in s q ≡ h) × IsNotAfter ks (origin_in s q) o)

-- the arguments of the origin are reached, and its value was reached by it or by what comes before it
pub record IsVisited (p : Product) (gens vs : List Vector) (s : Search) (o : Origin) : Type 0 where
  pub arguments : AllByRecursion (IsReached s) (arguments_of (arities p) o)
  pub value : (q : ℕ) → slice_get vs q ≡ Some (origin_value p gens vs o) → IsNear (arities p) s (height_of (arities p) s.heights.items o) o q

-- more rows are reached, and the origins of those that were are no later
pub record ReachesMore (ks : List ℕ) (s new : Search) : Type 0 where
  pub rest : List ℕ
  pub order : new.order.items ≡ s.order.items ++ rest
  pub heights : (q : ℕ) → IsReached s q → height_in new q ≡ height_in s q
  pub origins : (q : ℕ) → IsReached s q → IsNotAfter ks (origin_in new q) (origin_in s q)

-- no row is reached above this height, which the next row may have
pub record IsTop (s : Search) (h : ℕ) : Type 0 where
  pub high : (q : ℕ) → IsReached s q → height_in s q ≤ h
  pub low : h ≤ length s.order.items + 1

-- the origin may reach a row at this height
pub record MayVisit (p : Product) (gens vs : List Vector) (s : Search) (h : ℕ) (o : Origin) : Type 0 where
  pub valid : IsOrigin (arities p) (length gens) (length vs) o
  pub arguments : AllByRecursion (IsReached s) (arguments_of (arities p) o)
  pub height : h ≡ height_of (arities p) s.heights.items o

-- what an origin has reached
pub record HasReachedBy (p : Product) (gens vs : List Vector) (s new : Search) (h : ℕ) (o : Origin) : Type 0 where
  pub search : IsSearch p gens vs new
  pub later : ReachesMore (arities p) s new
  pub top : IsTop new h
  pub visited : IsVisited p gens vs new o

-- the generators, and the constants, are visited
abbrev pub AreGeneratorsVisited : Product → List Vector → List Vector → Search → ℕ → Type 0
AreGeneratorsVisited p gens vs s n = (i : ℕ) → i < n → IsVisited p gens vs s (Gen i)

abbrev pub no_arguments : List ℕ
no_arguments = 0 ∷ 0 ∷ 0 ∷ 0 ∷ []

abbrev pub AreConstantsVisited : Product → List Vector → List Vector → Search → ℕ → Type 0
AreConstantsVisited p gens vs s n = (f : ℕ) → f < n → slice_index (arities p) f ≡ 0 → IsVisited p gens vs s (Op f no_arguments)

-- an operation at the rows that were reached as these numbers
abbrev pub application : List ℕ → Search → ℕ → List ℕ → Origin
application ks s f tuple = Op f (four_places ks f (map (λ x. slice_index s.order.items x) tuple))

-- the operation at the rows of these numbers is visited
pub record IsTupleVisited (p : Product) (gens vs : List Vector) (s : Search) (f : ℕ) (tuple : List ℕ) : Type 0 where
  pub within : AllByRecursion (λ x. x < length s.order.items) tuple
  pub visited : IsVisited p gens vs s (application (arities p) s f tuple)

-- each tuple of a slice is visited
abbrev pub IsSliceVisited : Product → List Vector → List Vector → Search → ℕ → Type 0
IsSliceVisited p gens vs s k = AllByRecursion (IsTupleVisited p gens vs s (slice_operation (arities p) k)) (slice_tuples (arities p) k)

-- each of the first slices is
abbrev pub AreSlicesVisited : Product → List Vector → List Vector → Search → ℕ → Type 0
AreSlicesVisited p gens vs s n = (k : ℕ) → k < n → IsSliceVisited p gens vs s k

-- vectors of the product, each once, few enough for the numbering of their tuples
pub record IsRowTable (t : Table) : Type 0 where
  pub product : IsProduct t.operations
  pub shape : t.shape ≡ arities t.operations
  pub limits : IsShape t.shape
  pub width : t.rows.width ≡ length t.operations
  pub vectors : AllByRecursion (IsVector t.operations) t.rows.items
  pub different : IsDistinct (pointwise nat_eq) t.rows.items
  pub admitted : AllByRecursion (IsVector t.operations) t.gens.now.items
  pub few : length t.rows.items ≤ BUDGET
  pub fits : Fits t.shape 0 (length t.rows.items)

-- a search of the rows of a table
abbrev pub IsSearchOf : Table → Search → Type 0
IsSearchOf t s = IsSearch t.operations t.gens.now.items t.rows.items s

abbrev pub MayVisitIn : Table → Search → ℕ → Origin → Type 0
MayVisitIn t s h o = MayVisit t.operations t.gens.now.items t.rows.items s h o

abbrev pub HasReachedIn : Table → Search → Search → ℕ → Origin → Type 0
HasReachedIn t s new h o = HasReachedBy t.operations t.gens.now.items t.rows.items s new h o

-- the search went on, to rows of at most this height
pub record GoesOnTo (t : Table) (s new : Search) (h : ℕ) : Type 0 where
  pub search : IsSearchOf t new
  pub later : ReachesMore (arities t.operations) s new
  pub top : IsTop new h

-- generators, constants and slices that are visited in the search of a table
abbrev pub GeneratorsVisitedIn : Table → Search → Type 0
GeneratorsVisitedIn t s = AreGeneratorsVisited t.operations t.gens.now.items t.rows.items s (length t.gens.now.items)

abbrev pub ConstantsVisitedIn : Table → Search → Type 0
ConstantsVisitedIn t s = AreConstantsVisited t.operations t.gens.now.items t.rows.items s (length (arities t.operations))

abbrev pub SlicesVisitedIn : Table → Search → ℕ → Type 0
SlicesVisitedIn t s n = AreSlicesVisited t.operations t.gens.now.items t.rows.items s n

abbrev pub SliceVisitedIn : Table → Search → ℕ → Type 0
SliceVisitedIn t s k = IsSliceVisited t.operations t.gens.now.items t.rows.items s k

-- the height of the row that was reached as number m
abbrev pub height_number : Search → ℕ → ℕ
height_number s m = height_in s (slice_index s.order.items m)

-- no row is more than one higher than the row that was reached as number m
abbrev pub IsNearTop : Search → ℕ → Type 0
IsNearTop s m = (q : ℕ) → IsReached s q → height_in s q ≤ suc (height_number s m)

-- all that generators, constants and tuples of rows that are reached give is visited
pub record IsWholeSearch (p : Product) (gens vs : List Vector) (s : Search) : Type 0 where
  pub search : IsSearch p gens vs s
  pub generators : AreGeneratorsVisited p gens vs s (length gens)
  pub constants : AreConstantsVisited p gens vs s (length (arities p))
  pub slices : AreSlicesVisited p gens vs s (bound (arities p) (length s.order.items))
