pub mod TileLaws
pub mod ByteLaws
pub mod ListLaws
pub mod ColumnLaws
pub mod PushLaws
pub mod KnownLaws
pub mod QuadLaws
