mod Reading
pub mod IndexLaws
