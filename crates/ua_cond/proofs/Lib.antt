pub mod FrameLaws
pub mod DecisionLaws
