-- The lines of one operation over an algebra of any size.
pub mod LargeLanes
-- The values of a table in a line, and how they are scaled.
pub mod Lines
-- The lines of one operation.
pub mod Windows
