-- What a session knows of the names that a script has introduced, and the bounds of a run.
pub mod Sessions
-- The text of numbers, places, elements, vectors, rows and steps.
pub mod Texts
-- What a refused command is told.
pub mod Refusals
-- The places where operands fail, as one value, and the errors that they are.
pub mod Checks
-- The operands that commands share: the values that are written, and the places where they fail.
pub mod Operands
-- Partitions as they are written: their blocks, and the places where they fail.
pub mod Parts
-- What is said of closures, of their sizes, and of members.
pub mod Closures
-- What a command is answered: its first error, or the text of an answer that its call permits.
pub mod Replies
