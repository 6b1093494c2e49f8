pub mod Outcomes
pub mod Rounds
pub mod Fronts
pub mod Left
pub mod Findings
pub mod Searchers
