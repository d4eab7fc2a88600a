-- The labels at the places of two lists.
pub mod Labels
-- What is marked while blocks are read.
pub mod Marks
