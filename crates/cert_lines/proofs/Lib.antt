pub mod Walking
pub mod Blocked
pub mod LeastGains
pub mod TallyBounds
pub mod Shares
pub mod Marking
pub mod PlanTallies
