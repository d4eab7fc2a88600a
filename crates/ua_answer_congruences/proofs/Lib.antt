mod OperandLaws
mod RepliesExist
