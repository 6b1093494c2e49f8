pub mod Divisors
pub mod Rows
pub mod Runs
pub mod Starts
pub mod Stored
pub mod Steps
pub mod RoughRows
pub mod Theorems
