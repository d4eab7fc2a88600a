pub mod ReadLaws
pub mod WriteLaws
pub mod TokenLaws
pub mod LengthLaws
mod ReadingsTold
