pub mod Drawn
pub mod Image
pub mod Report
pub mod Simulation
pub mod Stores
pub mod View
