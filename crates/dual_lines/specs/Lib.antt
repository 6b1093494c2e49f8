pub mod Lines
pub mod Covers
pub mod Units
pub mod Places
pub mod LineParts
