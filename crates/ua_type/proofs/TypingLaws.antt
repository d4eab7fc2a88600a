-- What is told in a quotient is told of the cover.
use Rattle.std.proofs.Common.{◌≡◌, inl, inr, ℕ, ◌<◌, List, length, get_or, sym, ap, ◌∙◌, subst, arith, Some}
use Rattle.std.specs.Prelude.{slice_index, Option, None, Result, Ok, Err}
use Rattle.std.proofs.lemmas.List.{get_or_default}
use Rattle.ua_table.specs.Algebras.{FiniteAlgebra}
use Rattle.ua_close.specs.declared.close.CloseError.{CloseError}
use Rattle.ua_close.specs.declared.close.CloseError.TheVariants.{Wide, OutOfMemory}
use Rattle.ua_part.specs.Partitions.{Partition}
use Rattle.ua_type.specs.declared.quotients.Quotient.{Quotient}
use Rattle.ua_type.specs.declared.known.SubtracePair.{SubtracePair}
use Rattle.ua_type.specs.declared.searches.Search.{Search}
use Rattle.ua_type.specs.declared.searches.Search.TheVariants as searches
use Rattle.ua_type.specs.declared.subtraces.Trace.TheVariants as traces
use Rattle.ua_type.specs.declared.typings.Typed.TheVariants as typings
use Rattle.ua_type.specs.Quotients.{quotient_by, image_of, leader_of}
use Rattle.ua_type.specs.inner.Images.{IsQuotientOf}
use Rattle.ua_type.specs.Trials.{ArePairsNarrow}
use Rattle.ua_type.specs.inner.Searches.{IsFound, MaySearch}
use Rattle.ua_type.specs.inner.Squares.{MayHaveType}
use Rattle.ua_type.specs.Traces.{IsTrace}
use Rattle.ua_type.specs.Permitted.{MaySubtrace, MayType}

module _ (a : FiniteAlgebra) (alpha beta : Partition) (budget : ℕ) (made : Quotient) (is : IsQuotientOf a alpha beta made) where
  -- what a search in the quotient tells
  pub searched : (r : Result Search CloseError) → MaySearch made.algebra made.theta budget r → MaySearch (quotient_by a alpha) (image_of alpha beta) budget r
  searched r h = subst (λ t. MaySearch (quotient_by a alpha) t budget r) is.theta_is (subst (λ b. MaySearch b made.theta budget r) is.algebra_is h)

  -- and the search for a type
  pub typed : (x y : ℕ) (r : Result (Option ℕ) CloseError) → MayHaveType made.algebra budget x y r → MayHaveType (quotient_by a alpha) budget x y r
  typed x y r h = subst (λ b. MayHaveType b budget x y r) is.algebra_is h

  leader_read : (k leader : ℕ) → k < length made.leaders.items → leader ≡ get_or made.leaders.items k leader → leader ≡ leader_of alpha k
  leader_read k leader w at = at ∙ get_or_default made.leaders.items k leader 0 w ∙ ap (λ (ls : List ℕ). slice_index ls k) is.leaders_are

  pub pair_low : (pair : SubtracePair) → IsFound made.algebra made.theta budget pair → pair.low < made.algebra.size
  pair_low pair h = let l = h.first.subtrace.related.left in let n = is.congruence.size in omega (arith, l, n)

  pub pair_high : (pair : SubtracePair) → IsFound made.algebra made.theta budget pair → pair.high < made.algebra.size
  pair_high pair h = let l = h.first.subtrace.related.right in let n = is.congruence.size in omega (arith, l, n)

  size_is : made.algebra.size ≡ length made.leaders.items
  size_is = ap (λ (b : FiniteAlgebra). b.size) is.algebra_is ∙ sym (ap length is.leaders_are)

  pub low_within : (pair : SubtracePair) → IsFound made.algebra made.theta budget pair → pair.low < length made.leaders.items
  low_within pair h = let l = pair_low pair h in omega (arith, l, size_is)

  pub high_within : (pair : SubtracePair) → IsFound made.algebra made.theta budget pair → pair.high < length made.leaders.items
  high_within pair h = let l = pair_high pair h in omega (arith, l, size_is)

  module _ (pair : SubtracePair) (h : MaySearch made.algebra made.theta budget (Ok (searches.Found pair))) where
    found : IsFound (quotient_by a alpha) (image_of alpha beta) budget pair
    found = (searched (Ok (searches.Found pair)) h).1

    narrow : ArePairsNarrow (quotient_by a alpha) budget
    narrow = (searched (Ok (searches.Found pair)) h).0

    pub trace_here : (low high : ℕ) → low ≡ get_or made.leaders.items pair.low low → high ≡ get_or made.leaders.items pair.high high → IsTrace a alpha beta budget low high
    trace_here low high at_low at_high = record {
      first = pair.low;
      second = pair.high;
      subtrace = found.first;
      within = found.within;
      low_is = leader_read pair.low low (low_within pair h.1) at_low;
      high_is = leader_read pair.high high (high_within pair h.1) at_high;
    }

    pub subtrace_here : (low high : ℕ) → low ≡ get_or made.leaders.items pair.low low → high ≡ get_or made.leaders.items pair.high high → MaySubtrace a alpha beta budget (Ok (traces.Pair low high))
    subtrace_here low high at_low at_high = (narrow, trace_here low high at_low at_high)

    pub type_here : (number low high : ℕ) → MayHaveType made.algebra budget pair.low pair.high (Ok (Some number))
        → low ≡ get_or made.leaders.items pair.low low → high ≡ get_or made.leaders.items pair.high high
        → MayType a alpha beta budget (Ok (typings.Found number low high))
    unfolding trace_here
    type_here number low high told at_low at_high =
        let t = typed pair.low pair.high (Ok (Some number)) told in
        (narrow, record { trace = trace_here low high at_low at_high; narrow = t.0; few = t.1; type_is = t.2 })

    pub squares_exceed : MayHaveType made.algebra budget pair.low pair.high (Ok None) → MayType a alpha beta budget (Ok typings.Exceeds)
    squares_exceed told =
        let t = typed pair.low pair.high (Ok None) told in
        (narrow, inr (record { low = pair.low; high = pair.high; subtrace = found.first; within = found.within; narrow = t.0; beyond = t.1 }))

    pub squares_wide : (e : CloseError) → MayHaveType made.algebra budget pair.low pair.high (Err e) → MayType a alpha beta budget (Err e)
    squares_wide (Wide r c) told = inr (narrow, record { low = pair.low; high = pair.high; subtrace = found.first; within = found.within; cause = typed pair.low pair.high (Err (Wide r c)) told })
    squares_wide OutOfMemory told = tt

  pub pairs_exceed : MaySearch made.algebra made.theta budget (Ok searches.Beyond) → MaySubtrace a alpha beta budget (Ok traces.Exceeds)
  pairs_exceed h = searched (Ok searches.Beyond) h

  pub pairs_exceed_too : MaySearch made.algebra made.theta budget (Ok searches.Beyond) → MayType a alpha beta budget (Ok typings.Exceeds)
  pairs_exceed_too h = let t = searched (Ok searches.Beyond) h in (t.0, inl t.1)

  pub pairs_wide : (e : CloseError) → MaySearch made.algebra made.theta budget (Err e) → MaySubtrace a alpha beta budget (Err e)
  pairs_wide e h = searched (Err e) h

  pub pairs_wide_too : (e : CloseError) → MaySearch made.algebra made.theta budget (Err e) → MayType a alpha beta budget (Err e)
  pairs_wide_too (Wide r c) h = inl (searched (Err (Wide r c)) h)
  pairs_wide_too OutOfMemory h = tt
