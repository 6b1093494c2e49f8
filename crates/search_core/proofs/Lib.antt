pub mod Weightings
