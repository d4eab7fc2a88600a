-- Commutators of congruences.
pub mod Commutators
-- Congruences that grow until each matrix of a list goes with them.
pub mod Growths
-- The derived and the lower series of an algebra.
pub mod Series
-- What may be answered of commutators and of series, with the refusals.
pub mod Permitted
-- What private functions say.
pub mod inner
