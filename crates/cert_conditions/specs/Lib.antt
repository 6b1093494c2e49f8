pub mod Kinds
pub mod Sums
pub mod Marks
pub mod Steps
pub mod Taken
pub mod ListLines
