-- Rows with the operations of their power.
pub mod Closing
-- The first tuple that passes a test, of those that go on from a front.
pub mod Firsts
