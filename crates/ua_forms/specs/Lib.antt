-- The words of commands.
pub mod Words
