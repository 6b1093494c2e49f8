pub mod UnitCovers
pub mod SetPlaces
pub mod HeldLines
pub mod DualByAmounts
pub mod UnitsAnew
