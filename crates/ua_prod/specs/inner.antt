-- What is found of clashes, place by place, and of escapes, operation by operation.
pub mod Searches
