pub mod Separations
pub mod SeparationParts
pub mod UnitCosts
pub mod AddedRows
pub mod Buffers
pub mod Scratches
pub mod TableParts
pub mod OriginParts
