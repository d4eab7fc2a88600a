-- The tuples of one unit.
pub mod Numbering
-- Tuples that have a number.
pub mod Spans
