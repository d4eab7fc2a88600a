use Rattle.std.proofs.Common.{◌≡◌, ℕ, List, length, sym, ap, ◌∙◌, subst}
use Rattle.std.proofs.lemmas.List.{length-map}
use Rattle.ua_table.specs.declared.origins.Origin.{Origin}
use Rattle.ua_table.specs.Algebras.{Vector, IsIncreasing}
use Rattle.ua_table.specs.Counting.{EachOnceBelow}
use Rattle.ua_table.specs.Listings.{Row, vectors_of, ranks_of}
use Rattle.ua_rows.specs.RowLists.{rows_at}
use Rattle.ua_listing.specs.Arrangements.{IsIndex, listed, origins_of}
use Rattle.ua_listing.specs.Rankings.{ArePositions}
use Rattle.ua_listing.proofs.ArrangementLaws.{vectors_of-listed, ranks_of-listed, origins_of-listed}
use Rattle.ua_listing.proofs.RearrangeLaws.{rearranged_index, rows_back}
use Rattle.ua_listing.proofs.listing.Listing.rearranged.Goals as goal

module _ (old : List Row) (places ranks : List ℕ) (once : EachOnceBelow (length old) places) (all : length places ≡ length old)
    (inverse : ArePositions places ranks) (inc : IsIncreasing (vectors_of old)) (os : List Origin) (count : length os ≡ length old)
    (rows : List Vector) (rows_are : rows ≡ rows_at (vectors_of old) places) where
  vs_count : length (vectors_of old) ≡ length old
  vs_count = length-map old (λ (r : Row). r.vector)

  index_is : (positions : List ℕ) → positions ≡ places → IsIndex rows ranks positions os
  index_is positions e = subst (λ (x : List Vector × List ℕ). IsIndex x.0 ranks x.1 os) (λ i. (sym rows_are i, sym e i)) (rearranged_index (length old) places ranks once all inverse (vectors_of old) vs_count os inc count)

  os_ranks : length os ≡ length ranks
  os_ranks = count ∙ sym all ∙ sym inverse.count

  vectors_are : vectors_of (listed rows ranks os) ≡ vectors_of old
  vectors_are = vectors_of-listed rows ranks os os_ranks ∙ ap (λ (rs : List Vector). rows_at rs ranks) rows_are ∙ rows_back (length old) places ranks once all inverse (vectors_of old) vs_count

  ranks_are : ArePositions places (ranks_of (listed rows ranks os))
  ranks_are = subst (ArePositions places) (sym (ranks_of-listed rows ranks os os_ranks)) inverse

  origins_are : origins_of (listed rows ranks os) ≡ os
  origins_are = origins_of-listed rows ranks os os_ranks

pub invariant_of-result : goal.invariant_of-result
invariant_of-result c =
    index_is c.args.self.now c.args.places.now c.in_ok-ranks.ranks.items c.requires.places c.requires.all c.in_ok-ranks.ensures c.requires.increasing c.args.origins.items c.requires.count
    c.in_ok-rows.rows.items c.in_ok-rows.ensures.rows c.in_ok-positions.positions.items (c.in_ok-positions.ensures.items_if_clones_equal (λ y e h. h))

pub returns-clause-vectors : goal.returns-clause-vectors
returns-clause-vectors c =
    vectors_are c.args.self.now c.args.places.now c.in_ok-ranks.ranks.items c.requires.places c.requires.all c.in_ok-ranks.ensures c.requires.increasing c.args.origins.items c.requires.count
    c.in_ok-rows.rows.items c.in_ok-rows.ensures.rows

pub returns-clause-ranks : goal.returns-clause-ranks
returns-clause-ranks c =
    ranks_are c.args.self.now c.args.places.now c.in_ok-ranks.ranks.items c.requires.places c.requires.all c.in_ok-ranks.ensures c.requires.increasing c.args.origins.items c.requires.count
    c.in_ok-rows.rows.items c.in_ok-rows.ensures.rows

pub returns-clause-origins : goal.returns-clause-origins
returns-clause-origins c =
    origins_are c.args.self.now c.args.places.now c.in_ok-ranks.ranks.items c.requires.places c.requires.all c.in_ok-ranks.ensures c.requires.increasing c.args.origins.items c.requires.count
    c.in_ok-rows.rows.items c.in_ok-rows.ensures.rows
