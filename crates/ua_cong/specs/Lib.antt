-- Partitions on the way to the congruence that pairs generate.
pub mod Closings
-- All principal congruences of an algebra.
pub mod Principals
-- Principal congruences that are known.
pub mod Known
-- Congruences above a congruence.
pub mod Extensions
-- That pairs generate a congruence.
pub mod Generated
-- What private functions say.
pub mod inner
