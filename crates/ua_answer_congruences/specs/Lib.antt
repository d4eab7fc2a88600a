-- Congruences as operands: the partition that is written, or its first clash.
pub mod Congruences
-- The congruence that pairs generate: where the operands fail, and what is answered.
pub mod CgCommand
-- The lattice of congruences: what is answered.
pub mod ConCommand
-- The type of each cover: what is answered.
pub mod TypesCommand
-- Whether a congruence centralizes another: where the operands fail, and what is answered.
pub mod CentralCommand
-- The commutator of two congruences: where the operands fail, and what is answered.
pub mod CommCommand
-- The derived and the lower series: what is answered.
pub mod SeriesCommand
-- That each of these commands has a reply.
pub mod Replied
-- What private functions say.
pub mod inner
