-- What was heard of commands, and what is told of it.
pub mod Hearing
-- What a script may be answered: a reply to each command, in order.
pub mod Outputs
-- How a script is read from a source.
pub mod Reads
