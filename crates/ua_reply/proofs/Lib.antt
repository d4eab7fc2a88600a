pub mod CheckLaws
pub mod OperandLaws
pub mod Answering
pub mod PartLaws
mod Rows
mod SessionLaws
pub mod RepliesExist
