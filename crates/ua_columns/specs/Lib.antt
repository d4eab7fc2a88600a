-- Sixteen coordinates of sixteen vectors, each vector a lane.
pub mod Tiles
-- Vectors with entries below sixteen or sixty-four, sixteen side by side, in tiles and blocks.
pub mod Columns
-- Vectors by words of four entries each, for algebras of any size.
pub mod Quads
-- What private functions say.
pub mod inner
