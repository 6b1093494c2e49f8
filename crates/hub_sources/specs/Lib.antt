pub mod Blames
pub mod Building
pub mod Sources
pub mod Halts
pub mod Named
pub mod Shelves
pub mod Theorems
pub mod Told
