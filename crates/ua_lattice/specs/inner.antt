-- Partitions that are found as joins.
pub mod Joins
-- Partitions with their numbers of blocks, and lists of partitions in order.
pub mod Ordering
-- Places in a list of partitions: which hold joins, and which cover which.
pub mod Places
-- How far a search for the congruences of an algebra has come.
pub mod Searches
