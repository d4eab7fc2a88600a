-- What the search for the first subtrace has found so far: what private functions say.
use Rattle.std.specs.Prelude.{◌≡◌, ◌≢◌, ◌⊎◌, ℕ, ◌<◌, List, [], slice_index, slice_index_or, Option, Some, IfSome}
use Rattle.std.specs.Option.{IsSomeAnd}
use Rattle.ua_table.specs.Algebras.{Vector, FiniteAlgebra}
use Rattle.ua_part.specs.Partitions.{Partition, SameBlock}
use Rattle.ua_prod.specs.Congruences.{IsCongruence}
use Rattle.ua_type.specs.declared.known.SubtracePair.{SubtracePair}
use Rattle.ua_type.specs.declared.known.Known.{Known}
use Rattle.ua_type.specs.Subtraces.{IsBefore}
use Rattle.ua_type.specs.Known.{IsRight, IsPairOf}

-- the subtrace that was met, if any, is one of related elements
abbrev pub IsRelated : Partition → Option SubtracePair → Type 0
IsRelated theta least = IfSome least (λ l. SameBlock theta l.low l.high)

-- the earlier of a subtrace and the least of those met
pub record IsEarlier (old : Option SubtracePair) (pair : SubtracePair) (new : Option SubtracePair) : Type 0 where
  pub least : SubtracePair
  pub is : new ≡ Some least
  pub comes : (least ≡ pair) ⊎ (old ≡ Some least)
  pub pair_not_before : ¬ IsBefore pair.low pair.high least.low least.high
  pub old_not_before : IfSome old (λ o. ¬ IsBefore o.low o.high least.low least.high)

-- the same, of the first n of the vectors
pub record AreMetBelow (old : Option SubtracePair) (vs : List Vector) (n : ℕ) (new : Option SubtracePair) : Type 0 where
  pub comes : (new ≡ old) ⊎ IsSomeAnd new (IsPairOf vs)
  pub none_before : (j : ℕ) → j < n → slice_index (slice_index_or vs j []) 0 ≢ slice_index (slice_index_or vs j []) 1
      → IsSomeAnd new (λ m. ¬ IsBefore (slice_index (slice_index_or vs j []) 0) (slice_index (slice_index_or vs j []) 1) m.low m.high)
  pub old_not_before : IfSome old (λ o. IsSomeAnd new (λ m. ¬ IsBefore o.low o.high m.low m.high))

-- what is known stays right where (x,y) is tried, and what is met is related where (x,y) is
pub record IsKept (b : FiniteAlgebra) (budget x y : ℕ) (old new : Known) : Type 0 where
  pub right : IsRight b budget new
  pub related : (theta : Partition) → IsCongruence b theta → SameBlock theta x y → IsRelated theta old.least → IsRelated theta new.least

-- what is known is so, and is of the congruence
abbrev pub IsKnown : FiniteAlgebra → Partition → ℕ → Known → Type 0
IsKnown b theta budget known = IsRight b budget known × IsRelated theta known.least
