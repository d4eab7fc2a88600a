-- Conditions by their names, and near-unanimity: where the operands fail, and what is answered.
pub mod CondCommand
-- The condition that is written by its identities: where the operands fail, and what is answered.
pub mod ConditionCommand
-- Which lists of arguments a set holds.
pub mod ArgumentSets
-- The clone of terms or of polynomials: where the operands fail, and what is answered.
pub mod CloneCommand
-- Least chains of terms: what is answered.
pub mod ChainCommand
-- Whether an identity holds: where the operands fail, and what is answered.
pub mod HoldsCommand
-- That each of these commands has a reply.
pub mod Replied
