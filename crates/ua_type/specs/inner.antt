-- What comes of asking the pairs that a pair generates, and of going down to one that does not generate it.
pub mod Descents
-- The quotient that is made of a cover.
pub mod Images
-- What the search for the first subtrace has found so far.
pub mod Known
-- Pairs that are known to generate one pair.
pub mod Marks
-- What comes of trials.
pub mod Outcomes
-- What the search for the first subtrace comes to.
pub mod Searches
-- What is told of the type of a subtrace.
pub mod Squares
-- The types of some covers.
pub mod Tables
