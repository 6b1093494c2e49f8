pub mod AllSets
pub mod SetSearch
pub mod PlanRoutes
