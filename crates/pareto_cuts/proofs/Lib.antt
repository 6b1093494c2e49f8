pub mod OriginDuals
pub mod CommoditySums
pub mod Columns
pub mod DualLists
pub mod StopCounts
pub mod SetSums
pub mod FallingOrders
