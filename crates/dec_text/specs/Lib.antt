pub mod Views
pub mod Lines
