use Rattle.std.proofs.Common.{◌≡◌, ℕ, ◌<◌, List, length, sym, ap, ◌∙◌, subst, arith}
use Rattle.std.specs.List.{AllByRecursion}
use Rattle.ua_table.specs.declared.origins.Origin.{Origin}
use Rattle.std.proofs.lemmas.List.{length-map}
use Rattle.ua_table.specs.Counting.{EachOnceBelow}
use Rattle.ua_table.specs.Orders.{Record, rows_of}
use Rattle.ua_listing.specs.Rankings.{ArePositions}
use Rattle.ua_listing.specs.Arrangements.{listed, IsOriginOver, IsArranged}
use Rattle.ua_listing.specs.inner.Arrangements.{origins_at}
use Rattle.ua_listing.proofs.ArrangementLaws.{ranks-within, arranged}
use Rattle.ua_listing.proofs.listing.index_of.Goals as goal

pub positions_of-requires-clause-ranks : goal.positions_of-requires-clause-ranks
positions_of-requires-clause-ranks c =
    let ranking = c.in_ok-ranks.ensures.ranking in
    let same = c.as_slice.ensures.value in
    subst (λ (ns : List ℕ). EachOnceBelow (length ns) ns) (sym same) (subst (λ n. EachOnceBelow n c.in_ok-ranks.ranks.items) (sym ranking.count) ranking.once)

pub positions_of-requires-clause-count : goal.positions_of-requires-clause-count
positions_of-requires-clause-count c =
    let ranking = c.in_ok-ranks.ensures.ranking in
    let small = c.in_ok-ranks.ensures.count in
    omega (arith, small, ap length c.as_slice.ensures.value, ranking.count, length-map c.args.records.now (λ (r : Record). r.0))

pub moved_origins-requires-clause-origins : goal.moved_origins-requires-clause-origins
moved_origins-requires-clause-origins c =
    let ranking = c.in_ok-ranks.ensures.ranking in
    let n : length c.args.records.now ≡ length c.as_slice-3.result.now =
    omega (
      arith,
      ap length c.as_slice-3.ensures.value,
      c.in_ok-positions.ensures.count,
      ap length c.as_slice.ensures.value,
      ranking.count,
      length-map
          c.args.records.now (λ (r : Record). r.0),
    ) in
    subst (λ m. AllByRecursion (λ (r : Record). IsOriginOver c.args.shape.now m r.1) c.args.records.now) n c.requires

pub moved_origins-requires-clause-ranks : goal.moved_origins-requires-clause-ranks
moved_origins-requires-clause-ranks c =
    let positions = subst (λ (ns : List ℕ). ArePositions ns c.in_ok-positions.positions.items) c.as_slice.ensures.value c.in_ok-positions.ensures in
    subst (AllByRecursion (λ r. r < length c.args.records.now)) (sym c.as_slice-2.ensures.value)
    (ranks-within c.args.shape.now c.args.records.now c.in_ok-ranks.ranks.items c.in_ok-positions.positions.items c.in_ok-ranks.ensures.ranking positions c.requires)

pub returns-clause-arranged : goal.returns-clause-arranged
returns-clause-arranged c =
    let positions = subst (λ (ns : List ℕ). ArePositions ns c.in_ok-positions.positions.items) c.as_slice.ensures.value c.in_ok-positions.ensures in
    let origins : c.in_ok-origins.origins.items
    ≡ origins_at c.args.shape.now c.in_ok-positions.positions.items c.args.records.now c.in_ok-ranks.ranks.items =
    c.in_ok-origins.ensures
    ∙ (λ i. origins_at c.args.shape.now (c.as_slice-3.ensures.value i) c.args.records.now (c.as_slice-2.ensures.value i)) in
    subst (λ (os : List Origin). IsArranged c.args.shape.now c.args.records.now (listed (rows_of c.args.records.now) c.in_ok-ranks.ranks.items os)) (sym origins)
    (arranged c.args.shape.now c.args.records.now c.in_ok-ranks.ranks.items c.in_ok-positions.positions.items c.in_ok-ranks.ensures.ranking positions c.requires)
