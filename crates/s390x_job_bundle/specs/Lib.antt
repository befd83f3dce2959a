pub mod Text
pub mod Cut
pub mod Completions
pub mod Errors
