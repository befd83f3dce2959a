pub mod Instructions
pub mod Roles
