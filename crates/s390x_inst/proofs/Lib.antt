pub mod Loads
pub mod Portions
pub mod Saved
pub mod Stores
pub mod Transfers
pub mod Wholes
