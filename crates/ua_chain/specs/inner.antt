-- A list of the vectors of all terms, with what links its rows.
pub mod Charts
-- Rows by what stands at some of their coordinates.
pub mod Classes
-- Climbs over the rows of a closed listing.
pub mod ClimbsIn
-- What is made on the way from a closure of vectors to a chain of terms.
pub mod Closures
-- Rows by their parts at the patterns of a kind.
pub mod RowsOf
