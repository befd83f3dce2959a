pub mod Errors
pub mod Symbols
pub mod Fields
pub mod Causes
pub mod ReadingBack
pub mod Values
