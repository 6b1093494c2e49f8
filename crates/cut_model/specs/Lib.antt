pub mod Totals
pub mod Values
pub mod Runs
pub mod CutParts
pub mod MarkedCuts
pub mod ValueRows
pub mod LentRows
