-- Congruences that grow until each matrix of a list goes with them.
pub mod Growths
