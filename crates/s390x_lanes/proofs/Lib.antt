pub mod Powers
pub mod Building
pub mod Splitting
pub mod Reversing
pub mod Counting
pub mod LaneTests
pub mod Signed
