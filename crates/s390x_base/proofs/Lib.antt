pub mod Shifting
pub mod Members
