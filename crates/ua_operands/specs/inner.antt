-- What is read up to a closing token, and a number at the front of the tokens.
pub mod Reading
