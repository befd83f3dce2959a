pub mod Members
pub mod Refusal
pub mod Search
