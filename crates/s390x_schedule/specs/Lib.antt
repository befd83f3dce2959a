pub mod Example
pub mod Joint
pub mod JointMatch
pub mod Parts
pub mod Schedule
