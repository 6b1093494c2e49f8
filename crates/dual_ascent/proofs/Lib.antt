pub mod SmallShapes
