pub mod Vocabulary
pub mod ReadLaws
pub mod CloneLaws
