mod WrittenConditions
mod WrittenTables
pub mod RepliesExist
