pub mod Builders
pub mod Parses
pub mod Counts
pub mod ListedNodes
pub mod Entered
