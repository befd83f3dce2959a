pub mod Numbers
pub mod Sizes
pub mod Tables
pub mod Buffers
