mod Files
pub mod Through
pub mod Names
