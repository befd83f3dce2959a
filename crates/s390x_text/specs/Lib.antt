pub mod Agreement
pub mod Calls
pub mod Instructions
pub mod Laws
pub mod Rows
