use Rattle.std.proofs.Common.{◌≡◌, take}
use Rattle.ua_table.specs.Listings.{vectors_of}
use Rattle.ua_rows.specs.RowLists.{rows_at}
use Rattle.ua_listing.proofs.listing.Listing.rows_at.Given as goal

abbrev pub invariant-loop-place : goal.invariant-loop-place
invariant-loop-place l = record {
  width : l.rows.width ≡ l.width;
  items : l.rows.items ≡ rows_at (vectors_of l.self) (take l.place-index l.places);
}
