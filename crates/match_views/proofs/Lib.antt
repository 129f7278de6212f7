pub mod PlaceLaws
pub mod TruthLaws
pub mod RangeLaws
pub mod HitLaws
mod FewLaws
pub mod Steps
mod MarkLaws
