pub mod Status
pub mod Ends
pub mod Places
pub mod Input
pub mod Put
