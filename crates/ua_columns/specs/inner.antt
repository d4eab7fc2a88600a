-- The digits of a block of columns.
pub mod Columns
-- Keys found in a block, and the values at the entries of a word.
pub mod Quads
-- The bytes and words of tiles, and the values looked up in them.
pub mod Tiles
