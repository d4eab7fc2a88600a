-- Partitions on the way to the congruence that pairs generate.
pub mod Closings
-- Congruences above a congruence.
pub mod Extensions
-- Known principal congruences that lie below that of a pair.
pub mod Hints
-- Principal congruences that are known.
pub mod Known
-- All principal congruences of an algebra.
pub mod Principals
-- The states of a closing, and of the search over the graph of pairs.
pub mod States
