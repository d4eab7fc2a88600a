-- Workers side by side on one board.
pub mod Closings
-- One harvest of many: its rows, which comes first, which has the most rows.
pub mod Gatherings
-- How much room a budget wants.
pub mod Kinds
-- The marks of the rows that are needed.
pub mod Needed
