-- Terms that steps write, with variables at their places, and equations between two of them.
pub mod Equations
-- What certificates of conditions say, and their flaws.
pub mod Conditions
-- What certificates of chains say, and their flaws.
pub mod Chains
-- Certificates that there is no chain: rows, with positions that hold all that beginnings of chains reach.
pub mod Reached
-- What a certificate of any kind says, and its first flaw.
pub mod Checking
-- Certificates of terms and of chains that have no flaw, since they are made of right answers.
pub mod Laws
-- What private functions say.
pub mod inner
