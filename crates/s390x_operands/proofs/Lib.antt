pub mod Reporting
pub mod Looping
pub mod Members
pub mod Public
pub mod Witnesses
