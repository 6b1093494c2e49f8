pub mod Hands
pub mod Draws
pub mod Rules
pub mod Places
pub mod Crops
