pub mod Built
pub mod Places
pub mod Alone
pub mod Behind
pub mod Example
pub mod Baseline
