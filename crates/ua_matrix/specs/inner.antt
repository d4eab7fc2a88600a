-- What is told of centrality.
pub mod Answers
-- The algebra of the pairs that a congruence relates, and the congruence Delta on it.
pub mod Deltas
-- The matrices of two congruences, and centrality read off them.
pub mod Matrices
-- The pairs that a congruence relates, by their numbers in the square of the algebra.
pub mod Squares
