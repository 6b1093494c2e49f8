mod Joining
pub mod Decimals
pub mod TokenTexts
mod WordPlaces
mod Tokens
mod Legal
pub mod Reading
mod DemoJoining
mod Made
