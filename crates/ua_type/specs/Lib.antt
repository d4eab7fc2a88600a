-- What a congruence and another above it make of a quotient.
pub mod Quotients
-- Subtraces of a congruence: pairs that generate, with the constants, no pair of different elements but those that generate them.
pub mod Subtraces
-- The type of a subtrace.
pub mod Types
-- Which sets are closed in search of the first subtrace, and whether they are within a budget.
pub mod Trials
-- What comes of trials.
pub mod Outcomes
-- What the search for the first subtrace has found so far.
pub mod Known
-- What is told of the first subtrace of a cover.
pub mod Traces
-- What is told of the type of a cover.
pub mod Typings
-- What may be answered of subtraces and of types, with the refusals.
pub mod Permitted
-- What private functions say.
pub mod inner
