-- The closure of vectors in a power: where the operands fail, and what is answered.
pub mod CloseCommand
-- Whether a vector is generated: where the operands fail, and what is answered.
pub mod MemberCommand
-- Free algebras: where the operand fails, and what is answered, which is what a closure is.
pub mod FreeCommand
-- The subalgebra that elements generate: where the operands fail, and what is answered.
pub mod SubCommand
-- What each element generates: what is answered.
pub mod OnesCommand
-- The value of a term: where the operands fail, and what is answered.
pub mod EvalCommand
-- Homomorphisms: where the operands fail, and what is answered.
pub mod HomCommand
-- What is told of a certificate.
pub mod CheckCommand
-- Algebras that are made: where the operands fail, what is answered, and the session that is left.
pub mod MakeCommand
-- That each of these commands has a reply.
pub mod Replied
