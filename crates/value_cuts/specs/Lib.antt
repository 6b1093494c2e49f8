pub mod Ends
pub mod Prices
pub mod HeldDuals
pub mod Theorems
pub mod Origins
