-- What the search for the first subtrace comes to.
use Rattle.std.specs.Prelude.{◌↔◌, ℕ, ◌+◌, IsTrue, Option, Some, None, Result, Ok, Err}
use Rattle.ua_table.specs.Algebras.{FiniteAlgebra}
use Rattle.ua_close.specs.declared.close.CloseError.{CloseError}
use Rattle.ua_part.specs.Partitions.{Partition}
use Rattle.ua_type.specs.declared.known.SubtracePair.{SubtracePair}
use Rattle.ua_type.specs.declared.searches.Search.{Search}
use Rattle.ua_type.specs.declared.searches.Search.TheVariants.{Found, Beyond}
use Rattle.ua_type.specs.Subtraces.{Generates, IsFirstSubtrace}
use Rattle.ua_type.specs.Trials.{AllWithin, SomeExceeds, ArePairsNarrow, ArePairsWide}
use Rattle.ua_type.specs.inner.Outcomes.{AreVainBelow}

-- the first subtrace, and whether it generates its swap; each set of pairs that is closed is within the budget
pub record IsFound (b : FiniteAlgebra) (theta : Partition) (budget : ℕ) (pair : SubtracePair) : Type 0 where
  pub first : IsFirstSubtrace b theta pair.low pair.high
  pub within : AllWithin b theta budget
  pub swaps : IsTrue pair.swap ↔ Generates b pair.low pair.high pair.high pair.low

-- what a search comes to
abbrev pub IsSearch : FiniteAlgebra → Partition → ℕ → Search → Type 0
IsSearch b theta budget (Found pair) = IsFound b theta budget pair
IsSearch b theta budget Beyond = SomeExceeds b theta budget

-- pairs that are too wide are refused
abbrev pub MaySearch : FiniteAlgebra → Partition → ℕ → Result Search CloseError → Type 0
MaySearch b theta budget (Ok search) = ArePairsNarrow b budget × IsSearch b theta budget search
MaySearch b theta budget (Err e) = ArePairsWide b budget e

-- nothing is found where all pairs of x were tried in vain too
abbrev pub MaySearchFrom : FiniteAlgebra → Partition → ℕ → ℕ → Result (Option Search) CloseError → Type 0
MaySearchFrom b theta budget x (Ok None) = AreVainBelow b theta budget (x + 1)
MaySearchFrom b theta budget x (Ok (Some search)) = MaySearch b theta budget (Ok search)
MaySearchFrom b theta budget x (Err e) = ArePairsWide b budget e
