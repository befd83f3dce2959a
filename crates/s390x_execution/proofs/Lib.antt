pub mod TrapCodes
pub mod Executing
pub mod Fitting
pub mod Reporting
pub mod Starting
