-- Identities: their variables, whether they hold, and where they fail first.
pub mod Identities
-- The operations that terms have.
pub mod TermOperations
-- What the calls may answer, with their refusals.
pub mod Permitted
