-- Whether images of generators go on to a homomorphism: the pairs that they generate.
pub mod Homs
-- What is found of flaws, operation by operation.
pub mod Searches
-- Elements that are found to generate the same.
pub mod Twins
