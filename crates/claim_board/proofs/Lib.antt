pub mod Sums
mod Sounds
mod Runs
mod Moves
mod Closings
mod Rows
mod Together
