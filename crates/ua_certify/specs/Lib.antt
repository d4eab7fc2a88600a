-- The certificates of answers: of the kind that fits each answer, with what was asked and what was answered in it.
pub mod Certified
-- Laws of certificates: that of what a call may answer has no flaw, where the budget is at least one member.
pub mod Laws
