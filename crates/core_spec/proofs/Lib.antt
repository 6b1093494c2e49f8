pub mod SetSums
pub mod EdgeCosts
pub mod Lengths
pub mod Covers
pub mod TightDuals
pub mod Sides
pub mod Undominated
pub mod Scaled
