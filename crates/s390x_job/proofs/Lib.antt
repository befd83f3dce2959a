pub mod Exact
mod First
pub mod Texts
pub mod Trees
pub mod Builds
pub mod Beginnings
pub mod Whole
pub mod Places
pub mod Above
pub mod Sizes
pub mod PlainJob
mod Told
