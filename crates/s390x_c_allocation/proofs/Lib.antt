mod Reporting
pub mod Answering
