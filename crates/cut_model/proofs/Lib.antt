pub mod DualEntries
pub mod RunLists
pub mod RunSums
pub mod NodeValues
pub mod ValueDuals
pub mod ValueCuts
