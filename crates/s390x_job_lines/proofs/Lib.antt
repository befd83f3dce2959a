pub mod AccessLines
pub mod RoundTrip
pub mod Frees
pub mod Contents
pub mod Slots
