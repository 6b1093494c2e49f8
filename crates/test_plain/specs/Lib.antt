pub mod AllSets
