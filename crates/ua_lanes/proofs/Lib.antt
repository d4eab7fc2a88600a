pub mod LineLaws
pub mod WindowLaws
pub mod LongLaws
