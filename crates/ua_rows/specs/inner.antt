-- Slices of slices.
pub mod Gathered
-- Buckets that are free, and buckets that are entered.
pub mod Indexing
-- The kernel of one operation.
pub mod Kernels
