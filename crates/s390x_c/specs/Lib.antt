pub mod Refused
pub mod Emit
pub mod Image
pub mod Show
pub mod Bundle
