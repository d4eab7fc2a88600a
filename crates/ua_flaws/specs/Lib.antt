-- The first item of a list that fails a test, and tests on vectors.
pub mod Firsts
-- Steps as they are written: a text, and the numbers after it.
pub mod Steps
-- The widths and vectors that a certificate may have.
pub mod Shapes
-- Rows that hold the generators and are closed under the operations.
pub mod Closing
-- The first flaw of a certificate: lines in an order, of which the first that applies is told.
pub mod Flaws
-- What a certificate says of an algebra.
pub mod Properties
-- Answers that are right, of which certificates are made: listings of powers.
pub mod Answers
-- What holds of steps and of rows without a flaw, and which of them, and which certificates, have none.
pub mod Laws
-- What private functions say.
pub mod inner
