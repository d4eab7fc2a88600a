-- The words behind the program's name.
pub mod Words
-- What private functions say.
pub mod inner
