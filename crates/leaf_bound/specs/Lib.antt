pub mod Bounds
pub mod Numbers
pub mod Weighing
pub mod Theorems
pub mod Shares
