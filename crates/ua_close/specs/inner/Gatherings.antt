-- One harvest of many: its rows, which comes first, which has the most rows.
use Rattle.std.specs.Prelude.{◌≡◌, ℕ, ◌≤◌, List, length, map, take, slice_get, Option, Some, MatchOption}
use Rattle.std.specs.List.{AllByRecursion}
use Rattle.ua_rows.specs.RowLists.{RowList}
use Rattle.ua_core.specs.Machines as machines
use Rattle.ua_work.specs.declared.harvests.End.{End}
use Rattle.ua_work.specs.declared.harvests.End.TheVariants as ends
use Rattle.ua_work.specs.declared.harvests.Harvest.{Harvest}
use Rattle.ua_table.specs.declared.origins.Origin.{Origin}
use Rattle.ua_close.specs.Gatherings.{ends_of, IsBeyondEnd}

-- the n-th harvest is the first whose end is one of these
pub record IsFirstAt (is : End → Type 0) (hs : List Harvest) (n : ℕ) : Type 0 where
  pub harvest : Harvest
  pub stands : slice_get hs n ≡ Some harvest
  pub end : is harvest.end
  pub none : AllByRecursion (λ (e : End). ¬ is e) (take n (ends_of hs))

-- the number of the first harvest that came beyond the budget, with its origin, or None where none did
abbrev pub IsFirstBeyond : List Harvest → Option (ℕ × Origin) → Type 0
IsFirstBeyond hs found =
    MatchOption found (AllByRecursion (λ e. ¬ IsBeyondEnd e) (ends_of hs)) (λ f. IsFirstAt IsBeyondEnd hs f.0 × (slice_get (ends_of hs) f.0 ≡ Some (ends.Beyond f.1)))

-- the rows of a harvest
abbrev pub harvest_rows : Harvest → RowList
harvest_rows h = h.rows

-- no harvest has more rows than the n-th
pub record HasMostRows (hs : List Harvest) (n : ℕ) : Type 0 where
  pub rows : RowList
  pub stands : slice_get (map harvest_rows hs) n ≡ Some rows
  pub most : AllByRecursion (λ (h : Harvest). length h.rows.items ≤ length rows.items) hs
