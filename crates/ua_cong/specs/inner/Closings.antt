-- Partitions on the way to the congruence that pairs generate: what private functions say.
use Rattle.std.specs.Prelude.{◌≡◌, ℕ, ◌+◌, ◌<◌, ◌≤◌, List, ◌∷◌, ◌++◌, length, slice_index}
use Rattle.std.specs.List.{AllByRecursion}
use Rattle.ua_table.specs.Counting.{total}
use Rattle.ua_table.specs.Algebras.{FiniteAlgebra, arities_of, value_at}
use Rattle.ua_part.specs.Partitions.{Partition, IsPartition, SameBlock, LiesBelow}
use Rattle.ua_prod.specs.Congruences.{IsCongruence, RelatesAll}

-- the two are elements, and every unary translation takes them to related elements
pub record IsCarried (a : FiniteAlgebra) (p : Partition) (pair : ℕ × ℕ) : Type 0 where
  pub left : pair.0 < a.size
  pub right : pair.1 < a.size
  pub carried : (f : ℕ) (ps ss : List ℕ) → f < length (arities_of a) → length ps + 1 + length ss ≡ slice_index (arities_of a) f
      → AllByRecursion (λ e. e < a.size) ps → AllByRecursion (λ e. e < a.size) ss
      → slice_index p (value_at a f (ps ++ pair.0 ∷ ss)) ≡ slice_index p (value_at a f (ps ++ pair.1 ∷ ss))

-- operation f takes x and y at this place to related elements, for all arguments before it and behind it
abbrev pub IsCarriedAlong : FiniteAlgebra → Partition → ℕ → ℕ → ℕ → ℕ → Type 0
IsCarriedAlong a p f place x y =
    (ps ss : List ℕ) → length ps ≡ place → length ps + 1 + length ss ≡ slice_index (arities_of a) f → AllByRecursion (λ e. e < a.size) ps
    → AllByRecursion (λ e. e < a.size) ss → slice_index p (value_at a f (ps ++ x ∷ ss)) ≡ slice_index p (value_at a f (ps ++ y ∷ ss))

-- g is the same at both
abbrev pub IsOne : (ℕ → ℕ) → ℕ × ℕ → Type 0
IsOne g pair = g pair.0 ≡ g pair.1

-- every congruence that relates the pairs relates x and y
abbrev pub IsForced : FiniteAlgebra → List (ℕ × ℕ) → ℕ → ℕ → Type 0
IsForced a pairs x y = (q : Partition) → IsCongruence a q → RelatesAll q pairs → SameBlock q x y

-- two elements that every congruence relates which relates the pairs
pub record AreForced (a : FiniteAlgebra) (pairs : List (ℕ × ℕ)) (x y : ℕ) : Type 0 where
  pub first : x < a.size
  pub second : y < a.size
  pub forced : IsForced a pairs x y

-- the elements at each place of two rows
abbrev pub AreForcedAlong : FiniteAlgebra → List (ℕ × ℕ) → List ℕ → List ℕ → Type 0
AreForcedAlong a pairs xs ys = (k : ℕ) → k < length xs → AreForced a pairs (slice_index xs k) (slice_index ys k)

-- p relates the elements at each place of two rows
abbrev pub AreRelatedAlong : Partition → List ℕ → List ℕ → Type 0
AreRelatedAlong p xs ys = (k : ℕ) → k < length xs → slice_index p (slice_index xs k) ≡ slice_index p (slice_index ys k)

-- p lies below every congruence that relates the pairs, and is generated, as a partition, by pairs that are carried and by those of a list
pub record IsClosing (a : FiniteAlgebra) (pairs : List (ℕ × ℕ)) (p : Partition) (work : List (ℕ × ℕ)) : Type 0 where
  pub partition : IsPartition p
  pub size : length p ≡ a.size
  pub within : (q : Partition) → IsCongruence a q → RelatesAll q pairs → LiesBelow p q
  pub done : List (ℕ × ℕ)
  pub done_carried : AllByRecursion (IsCarried a p) done
  pub work_related : RelatesAll p work
  pub spans : (g : ℕ → ℕ) → AllByRecursion (IsOne g) done → AllByRecursion (IsOne g) work → (x y : ℕ) → SameBlock p x y → g x ≡ g y

-- more is related, and the list goes on; the entries and the length of the list have no greater total
pub record IsGrown (p q : Partition) (work later : List (ℕ × ℕ)) : Type 0 where
  pub above : LiesBelow p q
  pub more : List (ℕ × ℕ)
  pub later_is : later ≡ work ++ more
  pub least : length later + total (λ x. x) q ≤ length work + total (λ x. x) p
