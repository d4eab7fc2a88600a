-- What a script may be answered: a reply to each command, in order.
pub mod Outputs
-- How the items of a script are served.
pub mod Served
-- What was heard of commands, and what is told of it.
pub mod Hearing
-- The number of each status.
pub mod Codes
-- The script that is generated from a number.
pub mod Generated
-- How a script is read from a source.
pub mod Reads
-- How a run may end: one case for each status.
pub mod Runs
-- What private functions say.
pub mod inner
