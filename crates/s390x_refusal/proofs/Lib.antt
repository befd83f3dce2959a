pub mod Walking
pub mod Stepping
pub mod Nesting
pub mod Counting
pub mod Placing
