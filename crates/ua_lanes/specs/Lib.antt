-- The lines of an operation: its values at one coordinate, where one argument is free.
pub mod Lines
-- What a window tells: for the tuples that differ in one place alone, with sixteen numbers there, which values are vectors.
pub mod Windows
-- What contracts see of vectors in lanes.
pub mod LaneLists
-- Vectors of a product of small algebras in lanes.
pub mod SmallLanes
-- Vectors of a product of algebras of any size, in words of four entries.
pub mod LargeLanes
-- Vectors of a product in lanes, in the form that suits its sizes.
pub mod Lanes
-- What private functions say.
pub mod inner
