-- What a search answers.
pub mod Answers
-- A search by levels on its way, with the trails of its marks.
pub mod Marks
-- Walks, and the least of them.
pub mod Networks
-- How states are numbered, and the groups that classes make.
pub mod Sides
