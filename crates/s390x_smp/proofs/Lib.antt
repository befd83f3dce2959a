pub mod Drawing
pub mod Memories
pub mod Places
pub mod Rows
pub mod Starting
pub mod Stepping
pub mod Totals
pub mod Words
