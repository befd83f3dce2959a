pub mod Appended
pub mod Lowerings
pub mod Rows
pub mod Emitters
