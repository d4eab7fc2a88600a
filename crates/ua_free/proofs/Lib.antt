pub mod OrderLaws
pub mod WalkLaws
pub mod VariableLaws
pub mod MemberLaws
mod HoldsExist
