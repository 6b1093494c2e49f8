pub mod Counted
pub mod Fixing
pub mod Theorems
