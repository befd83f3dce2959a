pub mod Encoding
pub mod Accessing
pub mod ElementCodes
