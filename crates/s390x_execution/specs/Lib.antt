pub mod Execution
pub mod Start
pub mod Text
