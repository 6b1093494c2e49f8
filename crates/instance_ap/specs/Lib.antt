pub mod Points
pub mod Fronts
pub mod Files
