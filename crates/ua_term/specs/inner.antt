-- Where a phrase is written, and what is read of the arguments of one.
pub mod Phrases
-- Nodes that are left.
pub mod Steps
-- The machine that reads a term.
pub mod Terms
