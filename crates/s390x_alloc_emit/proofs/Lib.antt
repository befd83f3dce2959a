pub mod Clear
pub mod Changes
