pub mod CellLaws
pub mod PairLaws
pub mod IndexLaws
