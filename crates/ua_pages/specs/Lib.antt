-- Rows of one stride, end to end in pages.
pub mod Paging
