pub mod Branching
pub mod Declared
pub mod Ended
pub mod Ending
pub mod Extending
pub mod Placing
pub mod Sums
