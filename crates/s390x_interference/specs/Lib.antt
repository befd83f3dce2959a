pub mod Retry
pub mod Schedules
pub mod Loops
pub mod Linked
pub mod Example
pub mod Shared
pub mod Leaving
