pub mod Encoding
pub mod Opcodes
pub mod Storing
