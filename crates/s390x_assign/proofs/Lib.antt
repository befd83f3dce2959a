pub mod Counting
pub mod Described
pub mod Members
pub mod Replaced
