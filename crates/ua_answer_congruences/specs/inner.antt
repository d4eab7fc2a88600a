-- Congruences that are read, or what is told where there is none.
pub mod Operands
