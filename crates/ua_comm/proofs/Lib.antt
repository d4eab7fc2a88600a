pub mod CommutatorLaws
pub mod GrowthLaws
pub mod SeriesLaws
pub mod MemberLaws
pub mod CommutatorsExist
pub mod AnswersExist
