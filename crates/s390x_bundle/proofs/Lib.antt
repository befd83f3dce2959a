pub mod Standing
pub mod Starting
pub mod Emitting
pub mod Naming
pub mod Parting
pub mod Tables
pub mod Together
