pub mod WordLaws
pub mod TestLaws
pub mod KeptLaws
pub mod FieldLaws
