pub mod Halting
pub mod OneReading
pub mod Sources
