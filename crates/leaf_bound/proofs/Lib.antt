pub mod WeightedSums
pub mod LentNumbers
pub mod LeafWeights
pub mod BranchHubs
pub mod SideLists
