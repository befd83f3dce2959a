pub mod Available
pub mod Given
pub mod Relative
