pub mod Conditional
pub mod Memory
