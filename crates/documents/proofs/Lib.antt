-- Shared: other crates cite these.
pub mod FieldLaws
pub mod SizeLaws
