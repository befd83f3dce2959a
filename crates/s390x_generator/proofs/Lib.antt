pub mod Blocks
pub mod Instructions
pub mod Valid
