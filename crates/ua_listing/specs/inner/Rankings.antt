-- The positions and the ranks of rows.
use Rattle.std.specs.Prelude.{ℕ, List, map}
use Rattle.ua_listing.specs.declared.sorting.HighRow.{HighRow}
use Rattle.ua_listing.specs.declared.sorting.RankedRow.{RankedRow}

-- the ranks of the rows, in order
abbrev pub ranks_of_rows : List RankedRow → List ℕ
ranks_of_rows rows = map (λ (r : RankedRow). r.rank) rows

-- the positions of the rows, in order
abbrev pub places_of : List HighRow → List ℕ
places_of rows = map (λ (r : HighRow). r.place) rows
