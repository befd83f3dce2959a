pub mod Agreement
pub mod Blocks
pub mod CallTexts
pub mod Elements
mod Epilogues
pub mod Leaves
pub mod Loops
pub mod Machines
pub mod Mapless
pub mod RowAgreement
pub mod Rows
pub mod TreeAgreement
pub mod VectorAgreement
pub mod VectorMemory
pub mod Vectors
