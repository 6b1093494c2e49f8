pub mod Gaps
pub mod Mirrored
pub mod Legal
pub mod Tails
pub mod PostTokens
pub mod PostStages
pub mod PostFiles
