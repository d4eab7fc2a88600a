-- What is known of the operations of a replica.
pub mod Bases
-- How a worker settles the tuples of an associative operation by a basis.
pub mod Completions
-- The blocks of all operations.
pub mod KnownBlocks
-- What a worker's looks for the next record tell.
pub mod Looks
-- Records that have reached a turn.
pub mod Progress
-- A worker's own copy of the records that its seat has seen.
pub mod Replicas
-- A record of each row.
pub mod RowRecords
-- Runs: tuples that differ in one place alone, where the numbers come one after another.
pub mod Runs
-- The turn at which a slice begins.
pub mod Serials
-- How far a worker has come with a slice.
pub mod Walks
-- What holds of a worker while it works.
pub mod Workings
