-- The origins of records, by positions.
use Rattle.std.specs.Prelude.{ℕ, List, [], map, slice_index_or}
use Rattle.ua_table.specs.declared.origins.Origin.{Origin}
use Rattle.ua_table.specs.declared.origins.Origin.TheVariants.{Gen}
use Rattle.ua_table.specs.Orders.{Record}
use Rattle.ua_listing.specs.Arrangements.{by_position}

-- the origins of the records of these ranks, by positions
abbrev pub origins_at : List ℕ → List ℕ → List Record → List ℕ → List Origin
origins_at ks positions records ranks = map (λ r. by_position ks positions (slice_index_or records r ([], Gen 0)).1) ranks
