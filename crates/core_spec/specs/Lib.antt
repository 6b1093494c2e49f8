pub mod MarkRanges
pub mod Domination
pub mod CoreCuts
pub mod Theorems
