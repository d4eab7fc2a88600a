-- What a function that reads a value answers.
pub mod Reading
-- That what is written is read back.
pub mod Writing
