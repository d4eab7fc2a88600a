-- The term condition of Freese and McKenzie.
pub mod Centrality
-- The matrices of two congruences, and centrality read off them.
pub mod Matrices
-- The algebra of the pairs that a congruence relates, and the congruence Delta on it.
pub mod Deltas
-- A worked failure of the term condition.
pub mod Worked
-- What is told of centrality.
pub mod Answers
-- What may be answered when it is asked whether a congruence centralizes another modulo a third, with the refusals.
pub mod Permitted
-- The pairs that a congruence relates, by their numbers in the square of the algebra.
pub mod Squares
-- What private functions say.
pub mod inner
