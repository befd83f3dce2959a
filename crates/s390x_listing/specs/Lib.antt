pub mod Lists
pub mod Listings
pub mod Members
pub mod Operands
pub mod Texts
