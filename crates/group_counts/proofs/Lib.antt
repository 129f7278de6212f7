pub mod FigureLaws
pub mod TallyLaws
pub mod PlaceLaws
pub mod GatherLaws
pub mod StepLaws
pub mod KeyLaws
pub mod LeastLaws
mod SlotLaws
