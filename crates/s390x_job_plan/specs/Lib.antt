pub mod Completions
pub mod Errors
pub mod Example
pub mod Jobs
pub mod Lines
pub mod Order
pub mod Registers
pub mod Text
