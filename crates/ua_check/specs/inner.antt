-- What certificates of chains say, and their flaws.
pub mod Chains
-- Rows on the patterns of chains, as the checks read them.
pub mod ChartsOf
-- Terms that steps write, with variables at their places, and equations between two of them.
pub mod Equations
