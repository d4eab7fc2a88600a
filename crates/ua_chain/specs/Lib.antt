-- What is told when a least chain is asked for.
pub mod Answers
-- The kinds of chains that have names.
pub mod Names
-- What may be answered when a least chain is asked for, with the refusals.
pub mod Permitted
-- What private functions say.
pub mod inner
