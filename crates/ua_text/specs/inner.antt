-- The machine that reads a block, and what is read on the way to one.
pub mod Reading
-- The fault at a token, and which symbols take it.
pub mod States
-- How long a piece of text is, and what stands after a token.
pub mod Tokens
