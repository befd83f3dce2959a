pub mod Calls
pub mod Meets
pub mod Operands
pub mod Queries
pub mod Requests
pub mod Visits
