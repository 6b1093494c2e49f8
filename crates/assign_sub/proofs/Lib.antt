pub mod HubNodes
pub mod LeastSums
pub mod UnitCosts
