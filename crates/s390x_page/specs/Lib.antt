pub mod Instructions
pub mod Texts
pub mod Stepping
