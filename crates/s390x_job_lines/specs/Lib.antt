pub mod Names
pub mod Contents
pub mod Kinds
pub mod Line
pub mod Instructions
pub mod Slots
