-- Vectors in lexicographic order, by the ranks that they had.
pub mod Rankings
-- The listing of records: their vectors in order, each with its rank and its origin by positions.
pub mod Arrangements
-- What the least listing is made from.
pub mod Leasts
-- What private functions say.
pub mod inner
