mod Available
mod Given
mod Relative
