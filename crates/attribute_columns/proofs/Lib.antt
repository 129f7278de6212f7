pub mod ColumnLaws
mod ListLaws
mod NumberLaws
mod KeptLaws
