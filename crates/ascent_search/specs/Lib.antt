pub mod Ends
pub mod Gaps
pub mod SingleCuts
pub mod Progressing
pub mod Benches
pub mod BenchParts
pub mod Walking
