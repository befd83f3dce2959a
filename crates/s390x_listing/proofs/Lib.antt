pub mod Causes
pub mod Lines
pub mod Listing
pub mod SetTexts
pub mod Shown
