pub mod OperandEntries
pub mod Reports
pub mod Plans
pub mod Operands
