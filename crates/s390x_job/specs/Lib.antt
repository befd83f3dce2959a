pub mod Grammar
pub mod Items
pub mod Jobs
pub mod Same
pub mod Builds
pub mod Completions
pub mod Errors
