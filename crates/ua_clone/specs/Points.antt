-- Points of an operation in k variables: elements as arguments, and the value that is wanted there.
use Rattle.std.specs.Prelude.{◌≡◌, ℕ, ◌+◌, ◌^◌, ◌<◌, List, length, map, take, zip, slice_index}
use Rattle.std.specs.List.{AllByRecursion}
use Rattle.ua_table.specs.Algebras.{Vector}
use Rattle.ua_term.specs.Assignments.{IsAssignment, assignments}
use Rattle.ua_clone.specs.declared.points.Points.{Points}
use Rattle.ua_clone.specs.declared.points.Points.TheVariants.{Total, Partial}

-- arguments, and the value that is wanted there
pub record Point : Type 0 where
  pub arguments : List ℕ
  pub value : ℕ

-- a value for each assignment of n elements to k variables, in lexicographic order
abbrev pub total_points : ℕ → ℕ → List ℕ → List Point
total_points n k values = map (λ (p : List ℕ × ℕ). record { arguments = p.0; value = p.1 }) (zip (assignments n k) values)

-- each vector has k arguments, and then the value
abbrev pub partial_points : ℕ → List Vector → List Point
partial_points k vectors = map (λ (v : Vector). record { arguments = take k v; value = slice_index v k }) vectors

-- the points that a value of the program stands for
abbrev pub points_of : ℕ → ℕ → Points → List Point
points_of n k (Total values) = total_points n k values.items
points_of n k (Partial vectors) = partial_points k vectors.items

-- an assignment of n elements to k variables, and one of the elements as its value
pub record IsPoint (n k : ℕ) (p : Point) : Type 0 where
  pub assignment : IsAssignment n k p.arguments
  pub element : p.value < n

-- so are these
abbrev pub AreAllPoints : ℕ → ℕ → List Point → Type 0
AreAllPoints n k ps = AllByRecursion (IsPoint n k) ps

-- a total table has a value for each assignment; a partial one has a point, and so many entries in each; all are below n
abbrev pub ArePoints : ℕ → ℕ → Points → Type 0
ArePoints n k (Total values) = (length values.items ≡ n ^ k) × AllByRecursion (λ x. x < n) values.items
ArePoints n k (Partial vectors) = (0 < length vectors.items) × AllByRecursion (λ (v : Vector). (length v ≡ k + 1) × AllByRecursion (λ x. x < n) v) vectors.items
