pub mod PutOrder
pub mod DerivedLaws
pub mod NextKeyLaws
pub mod ColumnLaws
pub mod DroppingLaws
