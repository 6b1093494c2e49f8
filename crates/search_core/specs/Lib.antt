pub mod Starts
pub mod Tasks
