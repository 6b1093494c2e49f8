pub mod Limits
pub mod Requests
pub mod Hub
pub mod Parses
pub mod Values
pub mod Words
pub mod Views
pub mod Settings
