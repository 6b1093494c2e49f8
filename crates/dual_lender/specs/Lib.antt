pub mod Lenders
pub mod LenderParts
pub mod HeldParts
