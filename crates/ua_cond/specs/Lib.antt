-- What an answer says of the terms that meet a condition.
pub mod Decisions
-- What may be answered when it is asked whether some term meets a condition, with the refusals.
pub mod Permitted
