-- What closing the pairs of a pair tells of it.
use Rattle.std.proofs.Common.{◌≡◌, ◌≢◌, ◌⊎◌, ℕ, ◌^◌, ◌<◌, ◌≤◌, List, [], ◌∷◌, replicate, refl, sym, subst, Option, Some, None}
use Rattle.std.specs.Prelude.{Contains, slice_index, slice_get, IfSome, IfNone, IsTrue, ◌↔◌, Result, Ok, Err, Vec}
use Rattle.std.specs.Option.{is_some}
use Rattle.std.specs.declared.alloc.Global.{Global}
use Rattle.ua_table.specs.Algebras.{Vector, FiniteAlgebra, IsAlgebra, arities}
use Rattle.ua_table.specs.Generated.{Sg}
use Rattle.ua_table.specs.Numbering.{records}
use Rattle.ua_table.specs.Listings.{Row, vectors_of, IsClosedListing}
use Rattle.ua_table.proofs.ListingLaws.{vector_in, closed_has_no_more, exceeding_has_more}
use Rattle.ua_table.proofs.Lists.{Contains-slice_get}
use Rattle.ua_close.specs.declared.close.CloseError.{CloseError}
use Rattle.ua_close.specs.declared.close.CloseError.TheVariants.{Wide, OutOfMemory}
use Rattle.ua_close.specs.declared.close.Closure.TheVariants.{Closed, Exceeds}
use Rattle.ua_close.specs.Answers.{IsWide, IsCause, cells}
use Rattle.ua_close.specs.declared.reaches.Reach.{Reach}
use Rattle.ua_close.specs.declared.reaches.Reach.TheVariants as reaches
use Rattle.ua_work.specs.declared.goals.Goal.TheVariants.{Target}
use Rattle.ua_close.specs.Permitted.{MayClose, MayReach}
use Rattle.ua_close.proofs.KindLaws.{members_vectors}
use Rattle.ua_table.specs.declared.limits.TheConstants.{CELLS}
use Rattle.ua_type.specs.Subtraces.{pair_generators, Generates}
use Rattle.ua_type.specs.Trials.{HasMorePairs, ArePairsNarrow, ArePairsWide}
use Rattle.ua_type.specs.declared.trials.Trial.TheVariants.{Beyond}
use Rattle.ua_type.specs.inner.Outcomes.{GoesBack, MayTry}
use Rattle.ua_type.specs.inner.Descents.{IsLacking}
use Rattle.ua_type.proofs.GeneratedPairs.{no_more_pairs, same_count}
use Rattle.ua_type.proofs.PairLaws.{square-IsProduct, pair_vectors, ArePair, pair_from}

pub has_from : (o : Option ℕ) (vs : List Vector) (v : Vector) → IfSome o (λ i. slice_get vs i ≡ Some v) → IfNone o (¬ Contains vs v) → IsTrue (is_some o) ↔ Contains vs v
has_from None vs v found absent = (λ t. absurd (cc), λ c. absurd (absent c))
has_from (Some i) vs v found absent = (λ _. Contains-slice_get vs i v found, λ _. refl)

-- ---- pairs are wide or narrow all alike

pub narrow_all : (b : FiniteAlgebra) (budget x y : ℕ) → ¬ IsWide (replicate 2 b) (pair_generators b x y) budget → ArePairsNarrow b budget
narrow_all b budget x y h c d = subst (λ n. ¬ ((2 ^ 63 ≤ records (arities (replicate 2 b)) n budget) ⊎ (CELLS < cells (replicate 2 b) budget))) (same_count b x y c d) h

pub wide_all : (b : FiniteAlgebra) (budget x y : ℕ) (e : CloseError) → IsCause (replicate 2 b) (pair_generators b x y) budget e → ArePairsWide b budget e
wide_all b budget x y (Wide r k) h c d =
    subst
    (λ n.
    ((2 ^ 63 ≤ records (arities (replicate 2 b)) n budget) ⊎ (CELLS < cells (replicate 2 b) budget))
    × (r ≡ records (arities (replicate 2 b)) n budget) × (k ≡ cells (replicate 2 b) budget))
    (same_count b x y c d) h
wide_all b budget x y OutOfMemory h c d = tt

-- ---- the trial of a pair by its pairs

module _ (b : FiniteAlgebra) (budget x y : ℕ) (alg : IsAlgebra b) (xw : x < b.size) (yw : y < b.size) (rows : List Row) (closed : IsClosedListing (replicate 2 b) (pair_generators b x y) budget rows) where
  abbrev vs : List Vector
  vs = vectors_of rows

  pub within_budget : ¬ HasMorePairs b budget x y
  within_budget = closed_has_no_more (replicate 2 b) (pair_generators b x y) budget rows closed

  -- a row is a pair, and what it generates is within the budget too
  pub record IsPairRow (v : Vector) : Type 0 where
    pub pair : ArePair b v
    pub generated : Generates b x y (slice_index v 0) (slice_index v 1)
    pub within : ¬ HasMorePairs b budget (slice_index v 0) (slice_index v 1)

  pub row_pair : (v : Vector) → Contains vs v → IsPairRow v
  row_pair v c =
      let s = (closed.exact v).0 c in
      let pair = pair_from b v (members_vectors (replicate 2 b) (pair_generators b x y) (square-IsProduct b alg) (pair_vectors b x y xw yw) v s) in
      let g : Generates b x y (slice_index v 0) (slice_index v 1) = subst (λ u. Sg (replicate 2 b) (pair_generators b x y) u) pair.is s in
      record { pair = pair; generated = g; within = λ more. within_budget (no_more_pairs b budget x y (slice_index v 0) (slice_index v 1) g more) }

-- ---- whether a pair generates another

module _ (b : FiniteAlgebra) (budget workers x y : ℕ) where
  pairs_exceed : (rows : List Row) → MayClose (replicate 2 b) (pair_generators b x y) budget workers (Ok (Exceeds rows)) → HasMorePairs b budget x y
  pairs_exceed rows h = exceeding_has_more (replicate 2 b) (pair_generators b x y) budget rows h.1

  pub try_beyond : (rows : List Row) → MayClose (replicate 2 b) (pair_generators b x y) budget workers (Ok (Exceeds rows)) → MayTry b budget (x, y) (Ok Beyond)
  try_beyond rows h = (narrow_all b budget x y h.0, pairs_exceed rows h)

  pub pairs_narrow : (rows : List Row) → MayClose (replicate 2 b) (pair_generators b x y) budget workers (Ok (Closed rows)) → ArePairsNarrow b budget
  pairs_narrow rows h = narrow_all b budget x y h.0

  pub pairs_closed : (rows : List Row) → MayClose (replicate 2 b) (pair_generators b x y) budget workers (Ok (Closed rows)) → IsClosedListing (replicate 2 b) (pair_generators b x y) budget rows
  pairs_closed rows h = h.1

  pub pairs_wide : (e : CloseError) → MayClose (replicate 2 b) (pair_generators b x y) budget workers (Err e) → ArePairsWide b budget e
  pairs_wide e h = wide_all b budget x y e h

module _ (b : FiniteAlgebra) (budget workers : ℕ) (row : Vector) (pair : ℕ × ℕ) (target : Vec ℕ Global) (is : target.items ≡ pair.0 ∷ pair.1 ∷ []) where
  abbrev pub MaySeek : Result Reach CloseError → Type 0
  MaySeek r = MayReach (replicate 2 b) (pair_generators b (slice_index row 0) (slice_index row 1)) (Target target) budget workers r

  pub met_back : (rows : List Row) → MaySeek (Ok (reaches.Met rows)) → GoesBack b row pair
  met_back rows h _ =
      let p = replicate 2 b in
      let gens = pair_generators b (slice_index row 0) (slice_index row 1) in
      subst (Sg p gens) is (vector_in p gens rows h.1.listing target.items h.1.met)

  pub closed_lacks : (rows : List Row) → slice_index row 0 < b.size → slice_index row 1 < b.size
      → ¬ HasMorePairs b budget (slice_index row 0) (slice_index row 1) → slice_index row 0 ≢ slice_index row 1 → MaySeek (Ok (reaches.Closed rows))
      → IsLacking b budget (slice_index row 0, slice_index row 1) pair rows
  closed_lacks rows first second within differ h = record {
    first = first;
    second = second;
    within = within;
    differ = differ;
    lacks = λ g. h.1.1 (subst (Contains (vectors_of rows)) (sym is) ((h.1.0.exact (pair.0 ∷ pair.1 ∷ [])).1 g));
    closed = h.1.0;
  }

  pub never_beyond : (rows : List Row) → ¬ HasMorePairs b budget (slice_index row 0) (slice_index row 1) → MaySeek (Ok (reaches.Exceeds rows)) → ⊥
  never_beyond rows within h = within (exceeding_has_more (replicate 2 b) (pair_generators b (slice_index row 0) (slice_index row 1)) budget rows h.1.0)
