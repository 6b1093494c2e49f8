pub mod Matrices
pub mod ListedRows
