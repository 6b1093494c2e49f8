pub mod Counts
pub mod Ahead
pub mod Stretches
pub mod Stages
pub mod Values
pub mod Steps
pub mod Formulas
