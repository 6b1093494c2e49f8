pub mod Turns
pub mod Marks
pub mod Values
pub mod Exponents
pub mod PutPieces
