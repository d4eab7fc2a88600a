-- The passes of a batch.
pub mod Batches
