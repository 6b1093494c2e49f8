pub mod LengthLimits
pub mod LeastUnits
pub mod AddedWays
pub mod UnitSums
pub mod Deciding
pub mod Balances
