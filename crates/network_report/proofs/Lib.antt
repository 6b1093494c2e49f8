mod PlanParts
mod Handled
