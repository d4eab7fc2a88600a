-- What is written for operands, token by token.
pub mod Written
-- Which operands can be written, and what begins with what.
pub mod Reading
-- What private functions say.
pub mod inner
