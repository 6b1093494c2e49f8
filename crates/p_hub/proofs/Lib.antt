pub mod OneSorted
pub mod RisingGains
pub mod FallingNodes
pub mod CountedBounds
pub mod NumberChoices
pub mod OpenBranches
pub mod CountedSides
pub mod WantedPlans
