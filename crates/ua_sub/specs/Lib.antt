-- The elements that elements of an algebra generate.
pub mod Members
-- Whether images of generators go on to a homomorphism: the pairs that they generate.
pub mod Homs
-- What may be answered when it is asked whether images of generators go on to a homomorphism, with the refusals.
pub mod Permitted
-- Homomorphisms of a subalgebra that go on from images of its generators, as lists of an element with its image.
pub mod Extensions
-- Homomorphisms, and why a map is none.
pub mod Flaws
-- What private functions say.
pub mod inner
