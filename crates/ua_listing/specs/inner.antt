-- The origins of records, by positions.
pub mod Arrangements
-- Positions by height.
pub mod Leasts
-- The positions and the ranks of rows.
pub mod Rankings
-- The rows of a listing as they are reached, by ascending height.
pub mod Searches
