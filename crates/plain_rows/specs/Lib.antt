pub mod Choices
pub mod Flat
pub mod Plain
